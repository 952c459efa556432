use Rattle.std.proofs.Common.{◌≡◌, ℕ, ◌<◌, [], length, take}
use Rattle.sp_netlist.specs.Draft.{Draft}
use Rattle.sp_core.specs.CoreParts.{plain_core}
use Rattle.sp_core.specs.Plain.{plain_stage_list}
use Rattle.sp_plan.specs.Plain.{plain_node_plan}
use Rattle.sp_copy_nets.specs.Table.{own_numbers, slot_numbers}
use Rattle.sp_tree_handed.specs.Owners.{first_use}
use Rattle.sp_tree_handed.specs.Standing.{TurnsStand}
use Rattle.sp_tree_copies.specs.Loops.{CopiesStand}
use Rattle.sp_tree_copies.specs.Naming.{renewed_by}
use Rattle.sp_tree_copies.specs.Walks.{Adds, WalkStands}
use Rattle.sp_tree_copies.proofs.loops.add_renewals.Given as goal

abbrev pub invariant-loop-index : goal.invariant-loop-index
invariant-loop-index l = record {
  adds : ((m : ℕ) → first_use (plain_core l.core) (plain_node_plan l.planned) (plain_stage_list l.stages) m < length l.turns.firsts.items) → length l.copies.numbers.items ≡ length l.turns.firsts.items
      → Adds [] (renewed_by (first_use (plain_core l.core) (plain_node_plan l.planned) (plain_stage_list l.stages)) l.turns.firsts.items (λ x. own_numbers l.owned (slot_numbers l.copies.coming.items x)) (take l.index l.owned)) [] 0 0 l.fn.walk l.walk;
  stand : (d : Draft) → TurnsStand d l.turns → CopiesStand d l.copies → WalkStands d (plain_core l.core) l.fn.walk → WalkStands d (plain_core l.core) l.walk;
}
