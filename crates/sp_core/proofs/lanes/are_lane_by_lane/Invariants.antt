use Rattle.std.proofs.Common.{◌≡◌, drop}
use Rattle.sp_core.specs.NodeRules.{are_lane_by_lane}
use Rattle.sp_core.proofs.lanes.are_lane_by_lane.Given as goal

abbrev pub invariant-loop-i : goal.invariant-loop-i
invariant-loop-i l = are_lane_by_lane l.n l.i (drop l.i l.lanes) ≡ are_lane_by_lane l.n 0 l.lanes
