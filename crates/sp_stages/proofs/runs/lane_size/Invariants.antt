use Rattle.std.proofs.Common.{◌≡◌, ◌+◌, ◌≤◌, map, drop, filter, length}
use Rattle.sp_plan.specs.Slots.{is_in_lane_0}
use Rattle.sp_plan.specs.Runs.{plain_run}
use Rattle.sp_stages.proofs.runs.lane_size.Given as goal

abbrev pub invariant-loop-run : goal.invariant-loop-run
invariant-loop-run l =
    (l.count + length (filter is_in_lane_0 (map plain_run (drop l.run-index l.runs))) ≡ length (filter is_in_lane_0 (map plain_run l.runs)))
    × (l.count ≤ l.run-index)
