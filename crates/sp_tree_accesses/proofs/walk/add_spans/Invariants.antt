use Rattle.std.proofs.Common.{ℕ, map, take}
use Rattle.sp_core.specs.Plain.{plain_span}
use Rattle.sp_tree_handed.specs.Lists.{spans_in}
use Rattle.sp_tree_accesses.specs.Walks.{AddsLists}
use Rattle.sp_tree_accesses.proofs.walk.add_spans.Given as goal

abbrev pub invariant-loop-span : goal.invariant-loop-span
invariant-loop-span l = (n : ℕ) → AddsLists (spans_in (map plain_span (take l.span-index l.spans)) n) l.copies l.acted l.fn.walk l.walk
