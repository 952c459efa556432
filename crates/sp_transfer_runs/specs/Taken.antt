-- What a transfer takes and moves in a run of a core, as a statement.
use Rattle.std.specs.Prelude.{◌≡◌, ℕ, true, List}
use Rattle.sp_core.specs.Around.{Around}
use Rattle.sp_core.specs.Declarations.{dims, dram_number}
use Rattle.sp_core.specs.History.{History}
use Rattle.sp_core.specs.Invariant.{IsRight}
use Rattle.sp_core.specs.MemoryRules.{are_memories_right}
use Rattle.sp_core.specs.PlainCore.{PlainSpan, load, store, PlainCore}
use Rattle.sp_core.specs.Scope.{Reading, Scope}
use Rattle.sp_core.specs.Sequential.{run}
use Rattle.sp_core.specs.Step.{went}
use Rattle.sp_core.specs.Store.{Store}
use Rattle.sp_fitting.specs.Fitting.{HistoryFits}
use Rattle.sp_transfer_runs.specs.Runs.{DidSlice}

-- in a run of a core whose words fit, it takes a slice of its DRAM, and moves a word for each place
pub record SlicesAreTaken (core : PlainCore) : Type 0 where
  pub of_load : (reading : Reading) (turns : ℕ) (around : Around) (earlier : List ℕ) (r m : ℕ) (spans : List PlainSpan) (scope : Scope) (s t : Store) (h : History) → are_memories_right core ≡ true → IsRight core around earlier (load r m spans)
      → run core reading turns (load r m spans) scope s ≡ went h t → HistoryFits core (load r m spans) h → DidSlice (dims core (dram_number core r)) h
  pub of_store : (reading : Reading) (turns : ℕ) (around : Around) (earlier : List ℕ) (r m : ℕ) (spans : List PlainSpan) (scope : Scope) (s t : Store) (h : History) → are_memories_right core ≡ true → IsRight core around earlier (store r m spans)
      → run core reading turns (store r m spans) scope s ≡ went h t → HistoryFits core (store r m spans) h → DidSlice (dims core (dram_number core r)) h
