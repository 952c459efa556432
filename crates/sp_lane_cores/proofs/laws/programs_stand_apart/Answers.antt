use Rattle.sp_lane_cores.proofs.Apart.{program_apart}
use Rattle.sp_lane_cores.proofs.laws.programs_stand_apart.Goals as goal

pub returns : goal.returns
returns c p h = program_apart p h
