use Rattle.std.proofs.Common.{◌≡◌, ◌+◌, ◌≤◌, ◌^◌, drop}
use Rattle.sp_core.specs.Numbering.{node_count, node_count_in}
use Rattle.sp_core.specs.Plain.{plain_node, plain_stage_list}
use Rattle.sp_plan.proofs.size.+count_nodes.Given as goal

abbrev pub decreases-count_nodes : goal.decreases-count_nodes
decreases-count_nodes l = goal.size-count_nodes l

-- what is counted, and the stages that are left
abbrev pub invariant-loop-stage : goal.invariant-loop-stage
invariant-loop-stage l = (l.total + node_count_in (plain_stage_list (drop l.stage-index l.stage-items)) ≡ node_count (plain_node l.fn.node)) × (node_count (plain_node l.fn.node) ≤ 2 ^ 30)
