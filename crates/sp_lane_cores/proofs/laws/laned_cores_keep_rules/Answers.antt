use Rattle.sp_lane_cores.proofs.Whole.{laned_keep}
use Rattle.sp_lane_cores.proofs.laws.laned_cores_keep_rules.Goals as goal

pub returns : goal.returns
returns c core = laned_keep core
