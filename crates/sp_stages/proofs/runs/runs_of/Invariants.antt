use Rattle.std.proofs.Common.{◌≡◌, ◌++◌, ◌+◌, ◌≤◌, ◌^◌, map, drop}
use Rattle.sp_core.specs.Numbering.{number_count_in}
use Rattle.sp_core.specs.Plain.{plain_stage_list}
use Rattle.sp_plan.specs.Slots.{runs_of}
use Rattle.sp_plan.specs.Runs.{plain_run}
use Rattle.sp_stages.proofs.runs.runs_of.Given as goal

abbrev pub invariant-loop-stage : goal.invariant-loop-stage
invariant-loop-stage l =
    (map plain_run l.runs.items ++ runs_of l.from (plain_stage_list (drop l.stage-index l.stages)) ≡ runs_of l.fn.number (plain_stage_list l.stages))
    × (l.from + number_count_in (plain_stage_list (drop l.stage-index l.stages)) ≤ 2 ^ 30)
