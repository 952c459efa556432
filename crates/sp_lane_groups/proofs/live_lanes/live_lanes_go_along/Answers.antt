use Rattle.sp_lane_groups.proofs.LiveLane.{lane_goes}
use Rattle.sp_lane_groups.proofs.live_lanes.live_lanes_go_along.Goals as goal

pub returns : goal.returns
returns c core = lane_goes core
