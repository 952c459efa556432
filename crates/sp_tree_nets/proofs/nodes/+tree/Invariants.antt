use Rattle.std.proofs.Common.{map}
use Rattle.sp_core.specs.CoreParts.{plain_core}
use Rattle.sp_core.specs.Plain.{plain_counter}
use Rattle.sp_plan.specs.Plain.{plain_plan}
use Rattle.sp_tree_nets.proofs.Going.{StagesSoFar}
use Rattle.sp_tree_nets.proofs.nodes.+tree.Given as goal

abbrev pub invariant-emit_stages-loop-stage : goal.invariant-emit_stages-loop-stage
invariant-emit_stages-loop-stage l =
    StagesSoFar l.fn.builder l.builder (plain_core l.core) (plain_plan l.plan) l.around l.ends l.begun (map plain_counter l.counters) l.stages l.slots l.index l.number l.stage-index l.at l.second l.next l.parts.items l.acted.items l.owners.turns.items l.owners.kept.items l.moves.items
