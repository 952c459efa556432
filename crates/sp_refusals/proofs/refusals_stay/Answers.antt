use Rattle.sp_refusals.proofs.Refusals.{stays}
use Rattle.sp_refusals.proofs.refusals_stay.Goals as goal

-- src/lib.rt:7:1
pub returns : goal.returns
returns c = stays
