-- What the groups of a run of an inner body did, as a statement.
use Rattle.std.specs.Prelude.{◌≡◌, ℕ, ◌<◌, true, ℤ, List, [], length, slice_index_or, Option}
use Rattle.sp_core.specs.Around.{Around}
use Rattle.sp_core.specs.History.{Entry, Bounds, inner_ran}
use Rattle.sp_core.specs.Invariant.{IsRight}
use Rattle.sp_core.specs.MemoryRules.{are_memories_right}
use Rattle.sp_core.specs.PlainCore.{PlainOp, PlainCounter, inner, PlainCore}
use Rattle.sp_core.specs.Scope.{Reading, loops_of, group_values, Scope, in_group}
use Rattle.sp_core.specs.Sequential.{run}
use Rattle.sp_core.specs.Step.{went}
use Rattle.sp_core.specs.Store.{Store}
use Rattle.sp_fitting.specs.Fitting.{StoreFits, MasksAreBits}
use Rattle.sp_part_runs.specs.ActsEntries.{AreEntries, IndicesAreWords}

-- the groups are those of the loops that the bounds tell, and each did what the operations do in the scope of its values
pub record GroupsDone (scope : Scope) (reading : Reading) (counters : List PlainCounter) (ops : List PlainOp) (bounds : List Bounds) (groups : List (List Entry)) : Type 0 where
  pub each : length groups ≡ length (group_values (loops_of reading counters bounds))
  pub entries : (g : ℕ) → g < length groups → AreEntries (in_group scope (loops_of reading counters bounds) (slice_index_or (group_values (loops_of reading counters bounds)) g [])) ops (slice_index_or groups g [])
  pub bits : (g : ℕ) → g < length groups → MasksAreBits ops (slice_index_or groups g [])
  pub indices : (g : ℕ) → g < length groups → IndicesAreWords ops (slice_index_or groups g [])

-- so it is in a run from a store whose words fit
abbrev pub InnerRunsAreDone : PlainCore → Type 0
InnerRunsAreDone core =
    (reading : Reading) (turns : ℕ) (around : Around) (earlier : List ℕ) (counters : List PlainCounter) (owned : List ℕ) (ops : List PlainOp) (comb : Option ℕ) (scope : Scope) (s t : Store) (bounds : List Bounds) (counts : List ℕ) (groups : List (List Entry))
    → are_memories_right core ≡ true → IsRight core around earlier (inner counters owned ops comb) → StoreFits core s → run core reading turns (inner counters owned ops comb) scope s ≡ went (inner_ran bounds counts groups) t
    → GroupsDone scope reading counters ops bounds groups
