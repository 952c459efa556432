use Rattle.std.proofs.Common.{◌≡◌, ◌+◌, ◌≤◌, drop}
use Rattle.sp_core.specs.Plain.{plain_stage_list}
use Rattle.sp_plan.specs.Slots.{runs_of, lane_size}
use Rattle.sp_plan.proofs.runs.lane_size.Given as goal

abbrev pub invariant-loop-stage : goal.invariant-loop-stage
invariant-loop-stage l =
    (l.count + lane_size (runs_of 0 (plain_stage_list (drop l.stage-index l.stages))) ≡ lane_size (runs_of 0 (plain_stage_list l.stages)))
    × (l.count ≤ l.stage-index)
