-- The words that the DRAMs of a core have first, as a statement.
use Rattle.std.specs.Prelude.{◌≡◌, ℕ, ◌<◌, [], length, slice_index_or}
use Rattle.sp_words.specs.Ports.{PlainInput}
use Rattle.sp_core.specs.Declarations.{dram_number}
use Rattle.sp_core.specs.Meaning.{first_store}
use Rattle.sp_core.specs.PlainCore.{PlainCore}
use Rattle.sp_core.specs.Store.{words_of}

-- they are those of the input
abbrev pub FirstWordsGiven : PlainCore → Type 0
FirstWordsGiven core =
    (input : PlainInput) → length input.drams ≡ length core.ports.drams → (r : ℕ) → r < length core.ports.drams → words_of (first_store core input (dram_number core r)) ≡ slice_index_or input.drams r []
