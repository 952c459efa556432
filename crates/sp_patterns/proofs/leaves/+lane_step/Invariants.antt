use Rattle.std.proofs.Common.{length}
use Rattle.sp_patterns.proofs.leaves.+lane_step.Given as goal

abbrev pub decreases-lane_step : goal.decreases-lane_step
decreases-lane_step l = length l.places.now
