use Rattle.sp_lane_groups.proofs.LiveLane.{none_stands}
use Rattle.sp_lane_groups.proofs.live_lanes.none_stands_in_first_lane.Goals as goal

pub returns : goal.returns
returns c done es body = none_stands done es 0 body
