use Rattle.std.proofs.Common.{◌≡◌, ◌+◌, ◌≤◌, drop}
use Rattle.sp_core.specs.Invariant.{wrong_node, wrong_stage}
use Rattle.sp_core.specs.Numbering.{node_count_in}
use Rattle.sp_core.specs.PartsPlain.{core_of, around_of}
use Rattle.sp_core.specs.Plain.{plain_node, plain_stage_list}
use Rattle.sp_core.proofs.shown.+wrong_node.Given as goal

abbrev pub decreases-wrong_node : goal.decreases-wrong_node
decreases-wrong_node l = goal.size-wrong_node l

abbrev pub invariant-loop-stage : goal.invariant-loop-stage
invariant-loop-stage l =
    (l.next + node_count_in (plain_stage_list (drop l.stage-index l.stage-items)) ≤ 536870912)
    × (wrong_stage (core_of l.parts) (around_of l.inside) l.before.items l.next (plain_stage_list (drop l.stage-index l.stage-items))
    ≡ wrong_node (core_of l.parts) (around_of l.around) l.earlier l.number (plain_node l.node))
