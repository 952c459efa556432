use Rattle.std.proofs.Common.{◌≡◌, ◌++◌, map, drop}
use Rattle.sp_core.specs.CoreParts.{plain_core}
use Rattle.sp_core.specs.Plain.{plain_node, plain_stage_list}
use Rattle.sp_plan.specs.Named.{names, stages_names}
use Rattle.sp_plan.specs.Runs.{plain_named}
use Rattle.sp_stages.proofs.names.+push_names.Given as goal

abbrev pub decreases-push_names : goal.decreases-push_names
decreases-push_names l = goal.size-push_names l

abbrev pub invariant-loop-stage : goal.invariant-loop-stage
invariant-loop-stage l = map plain_named l.into.items ++ stages_names (plain_core l.core) (plain_stage_list (drop l.stage-index l.stage-items)) ≡ map plain_named l.fn.into.items ++ names (plain_core l.fn.core) (plain_node l.fn.node)
