-- When the elements of a copy hold what a memory holds: each word that is written there is written here.
use Rattle.std.specs.Prelude.{◌≡◌, ℕ, suc, ◌<◌, List, [], ◌∷◌, length, Option, Some, None, slice_index, slice_index_or}
use Rattle.sp_words.specs.declared.kind.Kind.{Kind}
use Rattle.sp_words.specs.declared.kind.Kind.TheVariants.{Reg, Sram, Fifo, LineBuf, Dram, ArgIn, ArgOut}
use Rattle.sp_words.specs.Interface.{word_count}
use Rattle.sp_words.specs.Memory.{Contents, fresh_rows}
use Rattle.sp_core.specs.Declarations.{kind_of, dims}
use Rattle.sp_core.specs.PlainCore.{PlainCore}
use Rattle.sp_core.specs.Store.{Store, cells_of, queue_of, rows_of, words_of}
use Rattle.sp_time.specs.Places.{Place}
use Rattle.sp_machine.specs.Found.{one_cell}
use Rattle.sp_contents.specs.Steady.{AtHand}

-- a row of as many cells, with the words that are written
pub record RowHolds (xs ys : List (Option ℕ)) : Type 0 where
  pub count : length xs ≡ length ys
  pub holds : (j w : ℕ) → slice_index_or xs j None ≡ Some w → slice_index_or ys j None ≡ Some w

pub record RowsHold (rs cs : List (List (Option ℕ))) : Type 0 where
  pub count : length rs ≡ length cs
  pub holds : (i : ℕ) → RowHolds (slice_index_or rs i []) (slice_index_or cs i [])

-- as many rows and cells as a fresh line buffer has
pub record IsShaped (dims : List ℕ) (cs : List (List (Option ℕ))) : Type 0 where
  pub count : length cs ≡ length (fresh_rows dims)
  pub cells : (i : ℕ) → length (slice_index_or cs i []) ≡ length (slice_index_or (fresh_rows dims) i [])

module _ (core : PlainCore) where
  -- by the kind of the memory, its dimensions, and what stands at each element of the copy
  abbrev pub Holds : Kind → (dims : List ℕ) → Option Contents → (ℕ → Option Contents) → Type 0
  Holds Reg ds c f = (w : ℕ) → slice_index_or (cells_of c) 0 None ≡ Some w → f 0 ≡ one_cell core w
  Holds Sram ds c f = (i w : ℕ) → slice_index_or (cells_of c) i None ≡ Some w → f i ≡ one_cell core w
  Holds Fifo ds c f = queue_of c ≡ queue_of (f 0)
  Holds LineBuf ds c f = RowsHold (rows_of c) (rows_of (f 0)) × IsShaped ds (rows_of c)
  Holds Dram ds c f = (length (words_of c) ≡ word_count ds) × ((i : ℕ) → i < word_count ds → f i ≡ one_cell core (slice_index (words_of c) i))
  Holds ArgIn ds c f = f 0 ≡ one_cell core (slice_index (words_of c) 0)
  Holds ArgOut ds c f = (0 < length (words_of c)) × (f 0 ≡ one_cell core (slice_index (words_of c) 0))

  -- the copies at hand hold what the store holds, and each copy of a line buffer has its rows
  pub record Agree (hand : AtHand) (s : Store) (c : Place → Option Contents) : Type 0 where
    pub held : (m copy : ℕ) → hand m ≡ Some copy → Holds (kind_of core m) (dims core m) (s m) (λ i. c (record { mem = m; copy = copy; element = i }))
    pub lines : (m copy : ℕ) → kind_of core m ≡ LineBuf → IsShaped (dims core m) (rows_of (c (record { mem = m; copy = copy; element = 0 })))

  -- a line buffer has a row at least
  abbrev pub AreLines : Type 0
  AreLines = (m : ℕ) → kind_of core m ≡ LineBuf → (r : ℕ) × (n : ℕ) × (dims core m ≡ suc r ∷ n ∷ [])
