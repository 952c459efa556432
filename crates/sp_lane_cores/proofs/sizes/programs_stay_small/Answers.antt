use Rattle.sp_lane_cores.proofs.SizeWhole.{program_small}
use Rattle.sp_lane_cores.proofs.sizes.programs_stay_small.Goals as goal

pub returns : goal.returns
returns c p h = program_small p h
