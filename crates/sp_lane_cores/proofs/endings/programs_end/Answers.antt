use Rattle.sp_lane_cores.proofs.EndingsWhole.{program_ends}
use Rattle.sp_lane_cores.proofs.endings.programs_end.Goals as goal

pub returns : goal.returns
returns c p h = program_ends p h
