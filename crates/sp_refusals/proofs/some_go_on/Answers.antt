use Rattle.sp_refusals.proofs.Refusals.{some_go_on}
use Rattle.sp_refusals.proofs.some_go_on.Goals as goal

-- src/lib.rt:18:1
pub returns : goal.returns
returns c = some_go_on
