use Rattle.std.proofs.Common.{length}
use Rattle.sp_unroll.proofs.within.+push_lanes.Given as goal

abbrev pub decreases-push_lanes : goal.decreases-push_lanes
decreases-push_lanes l = length l.counters.now
