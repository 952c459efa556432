use Rattle.std.proofs.Common.{◌≡◌, ◌+◌, ◌≤◌, drop}
use Rattle.sp_core.specs.NodeRules.{count_zeros}
use Rattle.sp_core.proofs.lanes.count_zeros.Given as goal

abbrev pub invariant-loop-lane : goal.invariant-loop-lane
invariant-loop-lane l = (l.count ≤ l.lane-index) × (l.count + count_zeros (drop l.lane-index l.lanes) ≡ count_zeros l.lanes)
