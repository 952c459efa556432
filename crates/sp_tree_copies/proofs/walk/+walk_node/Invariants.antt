use Rattle.std.proofs.Common.{drop}
use Rattle.sp_core.specs.CoreParts.{plain_core}
use Rattle.sp_core.specs.Plain.{plain_node}
use Rattle.sp_plan.specs.Plain.{plain_node_plan, plain_plan}
use Rattle.sp_tree_copies.proofs.Stepping.{StagesSoFar}
use Rattle.sp_tree_copies.proofs.walk.+walk_node.Given as goal

abbrev pub decreases-walk_node : goal.decreases-walk_node
decreases-walk_node l = goal.size-walk_node l

abbrev pub invariant-loop-stage : goal.invariant-loop-stage
invariant-loop-stage l =
    StagesSoFar (plain_core l.core) (plain_plan l.plan) l.turns l.kept l.loops (plain_node l.fn.node) l.fn.index l.around (plain_node_plan l.decided) l.owned.items l.at (drop l.stage-index l.stage-items) l.stage-index l.number l.second l.fn.walk l.walk
