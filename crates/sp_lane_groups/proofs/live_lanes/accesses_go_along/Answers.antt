use Rattle.sp_lane_groups.proofs.LiveWhole.{accesses_go}
use Rattle.sp_lane_groups.proofs.live_lanes.accesses_go_along.Goals as goal

pub returns : goal.returns
returns c core = accesses_go core
