use Rattle.std.proofs.Common.{◌≡◌, ◌≤◌, ◌^◌, [], drop, slice_index_or}
use Rattle.sp_core.specs.CoreParts.{plain_core}
use Rattle.sp_core.specs.Numbering.{number_count_in}
use Rattle.sp_core.specs.Plain.{plain_node, plain_stage_list}
use Rattle.sp_plan.specs.Named.{stages_names, names}
use Rattle.sp_plan.proofs.named.+node_named.Given as goal

abbrev pub decreases-node_named : goal.decreases-node_named
decreases-node_named l = goal.size-node_named l

abbrev pub invariant-loop-stage : goal.invariant-loop-stage
invariant-loop-stage l =
    (slice_index_or (stages_names (plain_core l.core) (plain_stage_list (drop l.stage-index l.stage-items))) l.left [] ≡ slice_index_or (names (plain_core l.fn.core) (plain_node l.fn.node)) l.fn.n [])
    × (number_count_in (plain_stage_list (drop l.stage-index l.stage-items)) ≤ 2 ^ 30)
