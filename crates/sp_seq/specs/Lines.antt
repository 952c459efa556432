-- Loads of line buffers.
use Rattle.std.specs.Prelude.{◌≡◌, ℕ, ◌-◌, ◌<◌, ◌≤◌, true, List, ◌∷◌, [], ◌++◌, drop, length, slice_index, slice_index_or, slice_set, Option, Some, Result, Ok, Err}
use Rattle.sp_words.specs.declared.kind.Kind.TheVariants.{LineBuf, Dram}
use Rattle.sp_words.specs.declared.types.Ty.{Ty}
use Rattle.sp_words.specs.Memory.{rows}
use Rattle.sp_tree.specs.Elements.{row_major}
use Rattle.sp_tree.specs.Expressions.{dims}
use Rattle.sp_tree.specs.PlainProgram.{PlainMem}
use Rattle.sp_tree.specs.Store.{Store, hold, rows_of, words_of}
use Rattle.sp_tree.specs.Transfers as transfers
use Rattle.sp_tree.specs.Typing.{IsMem}
use Rattle.sp_seq.specs.declared.state.State.{State}
use Rattle.sp_seq.specs.declared.state.Stop.{Stop}
use Rattle.sp_seq.specs.declared.state.Stop.TheVariants.{Turns}
use Rattle.sp_seq.specs.Evaluating.{Setting}
use Rattle.sp_seq.specs.Rows.{CellRow, no_cells}
use Rattle.sp_seq.specs.Slices.{Limited}
use Rattle.sp_seq.specs.States.{store_of}

-- the newest row
abbrev pub newest : List CellRow → CellRow
newest rs = slice_index_or rs (length rs - 1) no_cells

-- the row with a word in that column
abbrev pub with_word : CellRow → (column word : ℕ) → CellRow
with_word r column word = record { width = r.width; cells = slice_set r.cells column (Some word) }

-- in the second store the memory's newest row has a word in that column, and nothing else is changed
abbrev pub Wrote : (line column word : ℕ) → (s t : Store) → Type 0
Wrote line column word s t =
    (older : List (List (Option ℕ))) (row : List (Option ℕ)) → rows_of (s.held line) ≡ older ++ row ∷ [] → hold s line (rows (older ++ slice_set row column (Some word) ∷ [])) ≡ t

-- so many turns are taken at once, or fewer are left
abbrev pub Took : ℕ → (s : State) → Result (Unit {0}) Stop → (t : State) → Type 0
Took n s (Ok u) t = (n ≤ s.left) × (t.left ≡ s.left - n) × (store_of t ≡ store_of s)
Took n s (Err stop) t = (stop ≡ Turns) × (s.left < n)

-- the word of a slice of a DRAM that is so far into each range
abbrev pub word_of_slice : List PlainMem → (dram : ℕ) → List transfers.Part → Store → (offsets : List ℕ) → ℕ
word_of_slice mems dram parts s offsets = slice_index (words_of (s.held dram)) (row_major (dims mems dram) (transfers.places_of parts offsets))

-- a slice of a DRAM and a line buffer of one type, whose rows it fits
pub record CanFill (mems : List PlainMem) (s : State) (line dram : ℕ) (parts : List transfers.Part) : Type 0 where
  pub setting : Setting mems s
  pub ty : Ty
  pub on_chip : IsMem setting.program setting.scope line LineBuf ty
  pub outside : IsMem setting.program setting.scope dram Dram ty
  pub inside : transfers.are_parts_inside (dims mems dram) parts ≡ true
  pub limited : Limited parts (drop 1 (dims mems line))
