use Rattle.std.proofs.Common.{[], List, map, take}
use Rattle.sp_core.specs.Plain.{plain_span}
use Rattle.sp_core.specs.PlainCore.{PlainCore}
use Rattle.sp_copy_nets.specs.Table.{numbers_at}
use Rattle.sp_tree_handed.specs.declared.owners.Keeping.{Keeping}
use Rattle.sp_tree_handed.specs.declared.owners.LoopTurns.{LoopTurns}
use Rattle.sp_tree_copies.specs.declared.numbers.LoopCopies.{LoopCopies}
use Rattle.sp_tree_copies.specs.Naming.{span_names}
use Rattle.sp_tree_copies.specs.Walks.{Adds, KeepsStanding}
use Rattle.sp_tree_copies.proofs.names.name_spans.Given as goal

abbrev pub invariant-loop-span : goal.invariant-loop-span
invariant-loop-span l = record {
  adds : Adds (span_names (numbers_at l.around) (map plain_span (take l.span-index l.spans))) [] [] 0 0 l.fn.walk l.walk;
  stand : (core : PlainCore) (turns : List LoopTurns) (kept : List Keeping) (loops : List LoopCopies) → KeepsStanding core turns kept loops l.around l.fn.walk l.walk;
}
