-- How many words the DRAMs of a core have, as a statement.
use Rattle.std.specs.Prelude.{◌≡◌, ℕ, ◌<◌, length}
use Rattle.sp_words.specs.Ports.{PlainInput}
use Rattle.sp_core.specs.Declarations.{dram_number}
use Rattle.sp_core.specs.History.{History}
use Rattle.sp_core.specs.Inputs.{InputFits}
use Rattle.sp_core.specs.Invariant.{IsCore}
use Rattle.sp_core.specs.Meaning.{run_core}
use Rattle.sp_core.specs.PlainCore.{PlainCore}
use Rattle.sp_core.specs.Scope.{in_lanes}
use Rattle.sp_core.specs.Step.{went}
use Rattle.sp_core.specs.Store.{Store, words_of}
use Rattle.sp_overlap.specs.Whole.{IsTimed}
use Rattle.sp_dram_words.specs.Laws.{dram_size}

-- a run leaves in each DRAM as many words as it has
abbrev pub DramsKeepSizes : PlainCore → Type 0
DramsKeepSizes core =
    IsCore core → IsTimed core.root → (input : PlainInput) (turns : ℕ) (h : History) (left : Store) → InputFits core input → run_core in_lanes turns core input ≡ went h left
    → (r : ℕ) → r < length core.ports.drams → length (words_of (left (dram_number core r))) ≡ dram_size core r
