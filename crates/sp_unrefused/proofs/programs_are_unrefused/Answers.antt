use Rattle.sp_unrefused.proofs.Programs.{program_right}
use Rattle.sp_unrefused.proofs.programs_are_unrefused.Goals as goal

-- src/lib.rt:17:1
pub returns : goal.returns
returns c = program_right
