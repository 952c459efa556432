-- Slices of a DRAM, and the words that a transfer moves.
use Rattle.std.specs.Prelude.{ℕ, zero, suc, ◌+◌, ◌-◌, ◌*◌, ◌/◌, ◌==◌, nat_le, nat_lt, Bool, true, false, ◌&&◌, ◌||◌, ℤ, pos, int_le, List, [], ◌∷◌, ◌++◌, map, drop, Option, Some, None}
use Rattle.sp_words.specs.Memory.{rows}
use Rattle.sp_tree.specs.declared.statement.FaultKind.{FaultKind}
use Rattle.sp_tree.specs.declared.statement.FaultKind.TheVariants.{Bounds, DramBounds}
use Rattle.sp_tree.specs.Accesses.{read_cell, write_cell, read_word, write_word, hold_now}
use Rattle.sp_tree.specs.Elements.{index_value, natural, is_below, row_major, numbers_below, tuples, length_between}
use Rattle.sp_tree.specs.Step.{Step, pure, ◌>>=◌, ◌>>◌, turn, ensure, read, in_order}
use Rattle.sp_tree.specs.Store.{rows_of}

-- what a slice takes of one dimension: one index, or those from the first up to the second
pub data Part : Type 0 where
  index : ℤ → Part
  between : (from until : ℤ) → Part

-- the lengths of its ranges
abbrev pub lengths : List Part → List ℕ
lengths [] = []
lengths (index i ∷ parts) = lengths parts
lengths (between a b ∷ parts) = length_between a b ∷ lengths parts

-- whether one of them is empty
abbrev pub has_none : List ℕ → Bool
has_none [] = false
has_none (n ∷ ns) = n == 0 || has_none ns

-- whether each part is inside of its dimension
abbrev pub is_part_inside : ℕ → Part → Bool
is_part_inside d (index i) = is_below i d
is_part_inside d (between a b) = int_le (pos 0) a && int_le b (pos d)

abbrev pub are_parts_inside : (dims : List ℕ) → List Part → Bool
are_parts_inside [] [] = true
are_parts_inside (d ∷ dims) (p ∷ parts) = is_part_inside d p && are_parts_inside dims parts
are_parts_inside _ _ = false

-- whether no range is longer than its dimension
abbrev pub do_fit : (dims lengths : List ℕ) → Bool
do_fit (d ∷ dims) (n ∷ ns) = nat_le n d && do_fit dims ns
do_fit _ _ = true

-- where in the DRAM the word stands that is so far into each range
abbrev pub places_of : List Part → (offsets : List ℕ) → List ℕ
places_of (index i ∷ parts) offsets = natural i ∷ places_of parts offsets
places_of (between a b ∷ parts) (k ∷ offsets) = (natural a + k) ∷ places_of parts offsets
places_of _ _ = []

-- how far into each range each word is that the slice has, the last range fastest
abbrev pub all_offsets : List Part → List (List ℕ)
all_offsets parts = tuples (map numbers_below (lengths parts))

-- the words, one by one, into the elements of the SRAM that begin at 0, and from them
abbrev pub load_words : (sram : ℕ) → (sram_dims : List ℕ) → (dram : ℕ) → (dims : List ℕ) → List Part → Step (List (Unit {0}))
load_words sram sram_dims dram dims parts = in_order (λ offsets. do
  word ← read_word dram (row_major dims (places_of parts offsets))
  turn
  write_cell sram (row_major sram_dims offsets) word) (all_offsets parts)

abbrev pub store_words : (place : ℕ) → (sram : ℕ) → (sram_dims : List ℕ) → (dram : ℕ) → (dims : List ℕ) → List Part → Step (List (Unit {0}))
store_words place sram sram_dims dram dims parts = in_order (λ offsets. do
  word ← read_cell sram (row_major sram_dims offsets) place
  turn
  write_word dram (row_major dims (places_of parts offsets)) word) (all_offsets parts)

-- a row of so many columns that begins with these words
abbrev pub row_of : ℕ → List ℕ → List (Option ℕ)
row_of zero ws = []
row_of (suc width) [] = None ∷ row_of width []
row_of (suc width) (w ∷ ws) = Some w ∷ row_of width ws

-- the words, one by one, as the newest row, whose other columns are unwritten; the oldest row is dropped
abbrev pub load_row : (line : ℕ) → (width : ℕ) → (dram : ℕ) → (dims : List ℕ) → List Part → Step (Unit {0})
load_row line width dram dims parts = do
  ws ← in_order (λ offsets. do
    word ← read_word dram (row_major dims (places_of parts offsets))
    turn
    pure word) (all_offsets parts)
  rs ← read (λ s. rows_of (s.held line))
  hold_now line (rows (drop 1 rs ++ row_of width ws ∷ []))

-- a transfer: nothing where a range is empty; else its checks in order, and then its words
abbrev pub transfer : {A : Type 0} → (place : ℕ) → (dims : List ℕ) → List Part → (too_long : FaultKind) → (limits : List ℕ) → Step A → Step (Unit {0})
transfer place dims parts too_long limits move = elim (has_none (lengths parts)) [
  | true ↦ pure tt
  | false ↦ do
    ensure (are_parts_inside dims parts) DramBounds place
    ensure (do_fit limits (lengths parts)) too_long place
    move
    pure tt
]

-- how many words each lane of a slice moves: of the last range, in each row, every so many-th
abbrev pub words_in_lane : (par lane : ℕ) → (lengths : List ℕ) → ℕ
words_in_lane par lane [] = 1
words_in_lane par lane (n ∷ []) = (n + (par - 1 - lane)) / par
words_in_lane par lane (n ∷ ns) = n * words_in_lane par lane ns

abbrev pub words_by_lane : (par : ℕ) → (lengths : List ℕ) → List ℕ
words_by_lane par lengths = map (λ lane. words_in_lane par lane lengths) (numbers_below par)

-- the place of a DRAM of so many words that the k-th element of an SRAM of so many holds
abbrev pub place_held : (places held : ℕ) → (dram_words : ℕ) → (k place : ℕ) → Step ℕ
place_held places held dram_words k place = do
  ensure (nat_lt k held) Bounds place
  word ← read_cell places k place
  ensure (is_below (index_value word) dram_words) DramBounds place
  pure (natural (index_value word))

-- the words at these places, one by one, into the elements of an SRAM of so many words, and from them
abbrev pub gather_words : (place : ℕ) → (sram size : ℕ) → (dram dram_words : ℕ) → (places held : ℕ) → (count : ℕ) → Step (List (Unit {0}))
gather_words place sram size dram dram_words places held count = in_order (λ k. do
  at ← place_held places held dram_words k place
  ensure (nat_lt k size) Bounds place
  word ← read_word dram at
  turn
  write_cell sram k word) (numbers_below count)

abbrev pub scatter_words : (place : ℕ) → (dram dram_words : ℕ) → (places held : ℕ) → (count : ℕ) → (sram size : ℕ) → Step (List (Unit {0}))
scatter_words place dram dram_words places held count sram size = in_order (λ k. do
  at ← place_held places held dram_words k place
  ensure (nat_lt k size) Bounds place
  word ← read_cell sram k place
  turn
  write_word dram at word) (numbers_below count)
