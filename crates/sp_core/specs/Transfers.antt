-- Slices of a DRAM, and the words that a transfer moves, one by one.
use Rattle.std.specs.Prelude.{ℕ, ◌+◌, ◌-◌, ◌==◌, nat_le, Bool, true, false, ◌&&◌, ◌||◌, ℤ, pos, int_le, List, [], ◌∷◌, drop, map, slice_index}
use Rattle.sp_words.specs.declared.kind.Kind.{Kind}
use Rattle.sp_words.specs.declared.kind.Kind.TheVariants.{LineBuf}
use Rattle.sp_core.specs.Accesses.{read_in, write_in, turn_rows}
use Rattle.sp_core.specs.Declarations.{kind_of, dims, dram_number}
use Rattle.sp_core.specs.Elements.{index_value, natural, is_below, are_inside, numbers_below, tuples, length_between}
use Rattle.sp_core.specs.History.{History, Taken, one, both, last_word, moved}
use Rattle.sp_core.specs.PlainCore.{PlainCore}
use Rattle.sp_core.specs.Step.{Step, pure, ◌>>=◌, ◌>>◌, ensure, in_order}

-- what a slice takes of one dimension: one index, or those from the first up to the second
pub data Part : Type 0 where
  index : ℤ → Part
  between : (from until : ℤ) → Part

abbrev pub part_of : Taken → Part
part_of (one i) = index (index_value (last_word i))
part_of (both a b) = between (index_value (last_word a)) (index_value (last_word b))

-- the lengths of its ranges
abbrev pub lengths : List Part → List ℕ
lengths [] = []
lengths (index i ∷ parts) = lengths parts
lengths (between a b ∷ parts) = length_between a b ∷ lengths parts

-- whether one of them is empty
abbrev pub has_none : List ℕ → Bool
has_none [] = false
has_none (n ∷ ns) = n == 0 || has_none ns

-- whether each part is inside of its dimension
abbrev pub is_part_inside : ℕ → Part → Bool
is_part_inside d (index i) = is_below i d
is_part_inside d (between a b) = int_le (pos 0) a && int_le b (pos d)

abbrev pub are_parts_inside : (dims : List ℕ) → List Part → Bool
are_parts_inside [] [] = true
are_parts_inside (d ∷ dims) (p ∷ parts) = is_part_inside d p && are_parts_inside dims parts
are_parts_inside _ _ = false

-- whether no range is longer than its dimension
abbrev pub do_fit : (dims lengths : List ℕ) → Bool
do_fit (d ∷ dims) (n ∷ ns) = nat_le n d && do_fit dims ns
do_fit _ _ = true

-- where in the DRAM the word stands that is so far into each range
abbrev pub places_of : List Part → (offsets : List ℕ) → List ℕ
places_of (index i ∷ parts) offsets = natural i ∷ places_of parts offsets
places_of (between a b ∷ parts) (k ∷ offsets) = (natural a + k) ∷ places_of parts offsets
places_of _ _ = []

-- how far into each range each word is that the slice has, the last range fastest
abbrev pub all_offsets : List Part → List (List ℕ)
all_offsets parts = tuples (map numbers_below (lengths parts))

-- the ranges that a memory has room for: a line buffer for one, of columns
abbrev pub range_limits : Kind → (dims : List ℕ) → List ℕ
range_limits LineBuf dims = drop 1 dims
range_limits _ dims = dims

module _ (core : PlainCore) where
  -- where a word goes that is so far into each range: into an SRAM there, into a line buffer's newest row
  abbrev pub loaded_at : Kind → ℕ → (offsets : List ℕ) → List ℕ
  loaded_at LineBuf m offsets = (slice_index (dims core m) 0 - 1) ∷ slice_index offsets 0 ∷ []
  loaded_at kind m offsets = offsets

  -- the rows of a line buffer turn before its first word
  abbrev pub make_room : Kind → ℕ → Step (Unit {0})
  make_room LineBuf m = turn_rows core m
  make_room kind m = pure tt

  abbrev pub load_words : (dram mem : ℕ) → List Part → Step (List ℕ)
  load_words r m parts = do
    make_room (kind_of core m) m
    in_order (λ offsets. do
      w ← read_in core (dram_number core r) (places_of parts offsets)
      write_in core m (loaded_at (kind_of core m) m offsets) w
      pure w) (all_offsets parts)

  abbrev pub store_words : (dram mem : ℕ) → List Part → Step (List ℕ)
  store_words r m parts = in_order (λ offsets. do
    w ← read_in core m offsets
    write_in core (dram_number core r) (places_of parts offsets) w
    pure w) (all_offsets parts)

  -- a transfer of a slice: nothing where a range is empty; else the slice is inside of the DRAM, and its ranges are no
  -- longer than the memory's dimensions
  abbrev pub transfer : (dram mem : ℕ) → List Taken → Step (List ℕ) → Step History
  transfer r m taken move = elim (has_none (lengths (map part_of taken))) [
    | true ↦ pure (moved taken [])
    | false ↦ do
      ensure (are_parts_inside (dims core (dram_number core r)) (map part_of taken))
      ensure (do_fit (range_limits (kind_of core m) (dims core m)) (lengths (map part_of taken)))
      ws ← move
      pure (moved taken ws)
  ]

  abbrev pub load_slice : (dram mem : ℕ) → List Taken → Step History
  load_slice r m taken = transfer r m taken (load_words r m (map part_of taken))

  abbrev pub store_slice : (dram mem : ℕ) → List Taken → Step History
  store_slice r m taken = transfer r m taken (store_words r m (map part_of taken))

  -- a memory has a place k
  abbrev pub has_place : (mem k : ℕ) → Step (Unit {0})
  has_place m k = ensure (are_inside (dims core m) (pos k ∷ []))

  -- the place in the DRAM that stands at k in an SRAM
  abbrev pub place_at : (dram places k : ℕ) → Step ℕ
  place_at r p k = do
    has_place p k
    i ← read_in core p (k ∷ [])
    ensure (are_inside (dims core (dram_number core r)) (index_value i ∷ []))
    pure i

  -- word k of a gather, and of a scatter, with the word that is its place in the DRAM
  abbrev pub gather_word : (dram mem places k : ℕ) → Step (ℕ × ℕ)
  gather_word r m p k = do
    i ← place_at r p k
    w ← read_in core (dram_number core r) (natural (index_value i) ∷ [])
    has_place m k
    write_in core m (k ∷ []) w
    pure (i, w)

  abbrev pub scatter_word : (dram mem places k : ℕ) → Step (ℕ × ℕ)
  scatter_word r m p k = do
    i ← place_at r p k
    has_place m k
    w ← read_in core m (k ∷ [])
    write_in core (dram_number core r) (natural (index_value i) ∷ []) w
    pure (i, w)
