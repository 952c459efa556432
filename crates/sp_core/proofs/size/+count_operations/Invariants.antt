use Rattle.std.proofs.Common.{◌≡◌, ◌+◌, ◌≤◌, min, drop}
use Rattle.sp_core.specs.Numbering.{operation_count, operation_count_in}
use Rattle.sp_core.specs.Plain.{plain_node, plain_stage_list}
use Rattle.sp_core.proofs.size.+count_operations.Given as goal

abbrev pub decreases-count_operations : goal.decreases-count_operations
decreases-count_operations l = goal.size-count_operations l

abbrev pub invariant-loop-stage : goal.invariant-loop-stage
invariant-loop-stage l = (l.total ≤ 536870912) × (min (l.total + operation_count_in (plain_stage_list (drop l.stage-index l.stage-items))) 536870912 ≡ min (operation_count (plain_node l.node)) 536870912)
