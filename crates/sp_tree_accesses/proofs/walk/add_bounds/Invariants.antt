use Rattle.std.proofs.Common.{ℕ, map, take}
use Rattle.sp_core.specs.Plain.{plain_counter}
use Rattle.sp_tree_handed.specs.Lists.{bounds_in}
use Rattle.sp_tree_accesses.specs.Walks.{AddsLists}
use Rattle.sp_tree_accesses.proofs.walk.add_bounds.Given as goal

abbrev pub invariant-loop-counter : goal.invariant-loop-counter
invariant-loop-counter l = (n : ℕ) → AddsLists (bounds_in (map plain_counter (take l.counter-index l.counters)) n) l.copies l.acted l.fn.walk l.walk
