use Rattle.sp_retyped.proofs.Programs.{programs_back}
use Rattle.sp_retyped.proofs.programs_come_back.Goals as goal

-- src/lib.rt:23:1
pub returns : goal.returns
returns c = programs_back
