-- A transfer in a tree, of either direction.
use Rattle.std.specs.Prelude.{ℕ, List, Option}
use Rattle.sp_netlist.specs.declared.parts.Child.{Child}
use Rattle.sp_netlist.specs.Draft.{Draft}
use Rattle.sp_core.specs.PlainCore.{PlainSpan, PlainNode, load, store, PlainCore}
use Rattle.sp_plan.specs.PlainPlan.{PlainPlan}
use Rattle.sp_op_nets.specs.declared.acted.ActedList.{ActedList}
use Rattle.sp_op_nets.specs.declared.table.AroundNets.{AroundNets}
use Rattle.sp_tree_handed.specs.declared.moves.Direction.{Direction}
use Rattle.sp_tree_handed.specs.declared.moves.Direction.TheVariants.{Load, Store}
use Rattle.sp_tree_handed.specs.declared.moves.TreeMove.{TreeMove}
use Rattle.sp_tree_handed.specs.declared.owners.Keeping.{Keeping}
use Rattle.sp_tree_handed.specs.declared.owners.LoopTurns.{LoopTurns}
use Rattle.sp_tree_nets.specs.Emitted.{IsTree}

-- the node of a transfer
abbrev pub transfer_node : Direction → (dram mem : ℕ) → List PlainSpan → PlainNode
transfer_node Load r m spans = load r m spans
transfer_node Store r m spans = store r m spans

-- each transfer of this slice, of each core, is what was emitted
abbrev pub IsSliceTree : (old new : Draft) → List AroundNets → List (Option ℕ) → List PlainSpan → (k n : ℕ) → Child → List ActedList → List LoopTurns → List Keeping → List TreeMove → Type 0
IsSliceTree old new table ends spans k n child acted turns kept moves =
    (core : PlainCore) (plan : PlainPlan) (way : Direction) (dram mem : ℕ) → IsTree old new core plan table ends (transfer_node way dram mem spans) k n child acted turns kept moves
