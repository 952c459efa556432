use Rattle.std.proofs.Common.{drop}
use Rattle.sp_core.specs.Plain.{plain_node}
use Rattle.sp_tree_accesses.proofs.Nodes.{StagesSoFar}
use Rattle.sp_tree_accesses.proofs.walk.+add_node.Given as goal

abbrev pub decreases-add_node : goal.decreases-add_node
decreases-add_node l = goal.size-add_node l

abbrev pub invariant-loop-stage : goal.invariant-loop-stage
invariant-loop-stage l = StagesSoFar l.copies l.acted (plain_node l.fn.node) (drop l.stage-index l.stage-items) l.fn.walk l.walk
