use Rattle.sp_lane_cores.proofs.LanedPorts.{may_have_lanes}
use Rattle.sp_lane_cores.proofs.laned.programs_have_lanes.Goals as goal

pub returns : goal.returns
returns c p = may_have_lanes p
