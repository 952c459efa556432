use Rattle.std.proofs.Common.{◌≡◌, ◌+◌, ◌*◌, ◌≤◌, ◌^◌, drop}
use Rattle.sp_core.specs.CoreParts.{plain_core}
use Rattle.sp_core.specs.Numbering.{node_count, node_count_in}
use Rattle.sp_core.specs.Plain.{plain_node, plain_stage_list}
use Rattle.sp_plan.specs.Copies.{readers, stages_readers}
use Rattle.sp_plan.proofs.readers.+count_readers.Given as goal

abbrev pub decreases-count_readers : goal.decreases-count_readers
decreases-count_readers l = goal.size-count_readers l

-- what is counted, and the stages that are left
abbrev pub invariant-loop-stage : goal.invariant-loop-stage
invariant-loop-stage l =
    (l.total + stages_readers (plain_core l.core) l.m (plain_stage_list (drop l.stage-index l.stage-items)) ≡ readers (plain_core l.fn.core) l.fn.m (plain_node l.fn.node))
    × (l.total + 3 * node_count_in (plain_stage_list (drop l.stage-index l.stage-items)) ≤ 3 * node_count (plain_node l.fn.node))
    × (node_count_in (plain_stage_list (drop l.stage-index l.stage-items)) ≤ 2 ^ 30)
    × (node_count (plain_node l.fn.node) ≤ 2 ^ 30)
