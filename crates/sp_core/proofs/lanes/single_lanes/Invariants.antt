use Rattle.std.proofs.Common.{◌≡◌, ◌++◌, drop}
use Rattle.sp_core.specs.NodeRules.{single_lanes}
use Rattle.sp_core.specs.Plain.{plain_stage_list}
use Rattle.sp_core.proofs.lanes.single_lanes.Given as goal

abbrev pub invariant-loop-stage : goal.invariant-loop-stage
invariant-loop-stage l = l.lanes.items ++ single_lanes (plain_stage_list (drop l.stage-index l.stages)) ≡ single_lanes (plain_stage_list l.stages)
