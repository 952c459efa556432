use Rattle.sp_retyped.proofs.Ports.{declares_back}
use Rattle.sp_retyped.proofs.declarations_come_back.Goals as goal

-- src/lib.rt:17:1
pub returns : goal.returns
returns c = declares_back
