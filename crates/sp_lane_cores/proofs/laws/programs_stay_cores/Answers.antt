use Rattle.sp_lane_cores.proofs.Whole.{program_stays}
use Rattle.sp_lane_cores.proofs.laws.programs_stay_cores.Goals as goal

pub returns : goal.returns
returns c p h = program_stays p h
