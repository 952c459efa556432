use Rattle.std.proofs.Common.{[], List, take}
use Rattle.sp_core.specs.Plain.{plain_ops}
use Rattle.sp_core.specs.PlainCore.{PlainCore}
use Rattle.sp_copy_nets.specs.Table.{numbers_at}
use Rattle.sp_tree_handed.specs.declared.owners.Keeping.{Keeping}
use Rattle.sp_tree_handed.specs.declared.owners.LoopTurns.{LoopTurns}
use Rattle.sp_tree_copies.specs.declared.numbers.LoopCopies.{LoopCopies}
use Rattle.sp_tree_copies.specs.Naming.{names_of}
use Rattle.sp_tree_copies.specs.Walks.{Adds, KeepsStanding}
use Rattle.sp_tree_copies.proofs.names.name_ops.Given as goal

abbrev pub invariant-loop-op : goal.invariant-loop-op
invariant-loop-op l = record {
  adds : Adds (names_of (numbers_at l.around) (plain_ops (take l.op-index l.ops))) [] [] 0 0 l.fn.walk l.walk;
  stand : (core : PlainCore) (turns : List LoopTurns) (kept : List Keeping) (loops : List LoopCopies) → KeepsStanding core turns kept loops l.around l.fn.walk l.walk;
}
