use Rattle.std.proofs.Common.{◌≡◌, ◌++◌, ◌+◌, ◌≤◌, ◌^◌, drop}
use Rattle.std.specs.Prelude.{string_bytes}
use Rattle.sp_core.specs.Numbering.{node_count_in}
use Rattle.sp_core.specs.Plain.{plain_node, plain_stage_list}
use Rattle.sp_plan.specs.Plain.{plain_plan}
use Rattle.sp_report.specs.Nodes.{node_lines, stage_lines}
use Rattle.sp_report.proofs.nodes.+push_nodes.Given as goal

abbrev pub decreases-push_nodes : goal.decreases-push_nodes
decreases-push_nodes l = goal.size-push_nodes l

-- the lines that are left, and the nodes
abbrev pub invariant-loop-stage : goal.invariant-loop-stage
invariant-loop-stage l =
    (string_bytes l.text ++ stage_lines (plain_plan l.plan) l.next (plain_stage_list (drop l.stage-index l.stage-items)) ≡ string_bytes l.fn.text ++ node_lines (plain_plan l.plan) l.k (plain_node l.fn.node))
    × (l.next + node_count_in (plain_stage_list (drop l.stage-index l.stage-items)) ≤ 2 ^ 30)
