use Rattle.sp_lane_groups.proofs.LiveCounters.{counters_go}
use Rattle.sp_lane_groups.proofs.live_lanes.counters_go_along.Goals as goal

pub returns : goal.returns
returns c = counters_go
