use Rattle.sp_outcomes.proofs.Programs.{program_goes}
use Rattle.sp_outcomes.proofs.laws.programs_are_followed.Goals as goal

pub returns : goal.returns
returns c p h = program_goes p h
