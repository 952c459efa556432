use Rattle.std.proofs.Common.{◌≡◌, ◌&&◌, drop}
use Rattle.sp_core.specs.CoreParts.{plain_core}
use Rattle.sp_core.specs.Plain.{plain_node, plain_stage_list}
use Rattle.sp_build.specs.Buildable.{is_node_buildable, are_buildable}
use Rattle.sp_build.proofs.buildable.+is_node_buildable.Given as goal

abbrev pub decreases-is_node_buildable : goal.decreases-is_node_buildable
decreases-is_node_buildable l = goal.size-is_node_buildable l

-- what is found so far, and what is left
abbrev pub invariant-loop-stage : goal.invariant-loop-stage
invariant-loop-stage l = (l.all && are_buildable (plain_core l.core) (plain_stage_list (drop l.stage-index l.stage-items))) ≡ is_node_buildable (plain_core l.core) (plain_node l.node)
