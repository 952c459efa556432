use Rattle.std.proofs.Common.{drop}
use Rattle.sp_core.specs.CoreParts.{plain_core}
use Rattle.sp_core.specs.Plain.{plain_node, plain_stage_list}
use Rattle.sp_load_units.proofs.Walking.{StagesLeft}
use Rattle.sp_load_units.proofs.walk.+add_node.Given as goal

abbrev pub decreases-add_node : goal.decreases-add_node
decreases-add_node l = goal.size-add_node l

abbrev pub invariant-loop-stage : goal.invariant-loop-stage
invariant-loop-stage l = StagesLeft (plain_core l.core) (plain_node l.fn.node) l.fn.builder l.fn.walk l.builder l.walk (plain_stage_list (drop l.stage-index l.stage-items))
