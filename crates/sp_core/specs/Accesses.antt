-- What stands in a memory at indices, and accesses to memories, as steps. Each names one memory.
use Rattle.std.specs.Prelude.{ℕ, nat_lt, List, [], ◌∷◌, ◌++◌, length, map, drop, replicate, slice_index, slice_index_or, slice_set, Option, Some, None}
use Rattle.sp_words.specs.declared.kind.Kind.{Kind}
use Rattle.sp_words.specs.declared.kind.Kind.TheVariants.{Reg, Sram, LineBuf, Dram, ArgIn}
use Rattle.sp_words.specs.Memory.{Contents, cells, queue, rows, words}
use Rattle.sp_core.specs.Declarations.{kind_of, dims, room}
use Rattle.sp_core.specs.Elements.{index_value, natural, are_inside, row_major}
use Rattle.sp_core.specs.History.{Entry, touched}
use Rattle.sp_core.specs.PlainCore.{PlainCore}
use Rattle.sp_core.specs.Step.{Step, pure, ◌>>=◌, ◌>>◌, stop, ensure, look, change}
use Rattle.sp_core.specs.Store.{hold, cells_of, queue_of, rows_of, words_of}

-- the word that stands at indices, if it is written, by the kind and the dimensions of its memory: an SRAM, a line buffer
-- and a DRAM have an index for each dimension, the others one word
abbrev pub word_in : Kind → (dims indices : List ℕ) → Option Contents → Option ℕ
word_in Reg dims is c = slice_index_or (cells_of c) 0 None
word_in Sram dims is c = slice_index_or (cells_of c) (row_major dims is) None
word_in LineBuf dims is c = slice_index_or (slice_index_or (rows_of c) (slice_index is 0) []) (slice_index is 1) None
word_in Dram dims is c = Some (slice_index (words_of c) (row_major dims is))
word_in ArgIn dims is c = Some (slice_index (words_of c) 0)
word_in _ dims is c = None

-- the contents with a word there
abbrev pub with_word : Kind → (dims indices : List ℕ) → ℕ → Option Contents → Contents
with_word Reg dims is w c = cells (slice_set (cells_of c) 0 (Some w))
with_word Sram dims is w c = cells (slice_set (cells_of c) (row_major dims is) (Some w))
with_word LineBuf dims is w c =
    rows (slice_set (rows_of c) (slice_index is 0) (slice_set (slice_index_or (rows_of c) (slice_index is 0) []) (slice_index is 1) (Some w)))
with_word Dram dims is w c = words (slice_set (words_of c) (row_major dims is) w)
with_word _ dims is w c = words (slice_set (words_of c) 0 w)

-- the contents of a FIFO that a word enters, and that its oldest word leaves
abbrev pub with_newest : ℕ → Option Contents → Contents
with_newest w c = queue (queue_of c ++ w ∷ [])

abbrev pub without_oldest : Option Contents → Contents
without_oldest c = queue (drop 1 (queue_of c))

-- those of a line buffer whose rows turn: the oldest one goes, and the newest one isn't written yet
abbrev pub with_new_row : (dims : List ℕ) → Option Contents → Contents
with_new_row dims c = rows (drop 1 (rows_of c) ++ replicate (slice_index dims 1) None ∷ [])

-- the memory begins to hold this
abbrev pub hold_now : ℕ → Contents → Step (Unit {0})
hold_now memory contents = change (λ s. hold s memory contents)

-- a word that is written
abbrev pub written : Option ℕ → Step ℕ
written None = stop
written (Some word) = pure word

abbrev pub first_of_queue : List ℕ → Step ℕ
first_of_queue [] = stop
first_of_queue (word ∷ rest) = pure word

module _ (core : PlainCore) where
  abbrev pub read_in : ℕ → (indices : List ℕ) → Step ℕ
  read_in m is = do
    found ← look (λ s. word_in (kind_of core m) (dims core m) is (s m))
    written found

  abbrev pub write_in : ℕ → (indices : List ℕ) → ℕ → Step (Unit {0})
  write_in m is w = change (λ s. hold s m (with_word (kind_of core m) (dims core m) is w (s m)))

  abbrev pub turn_rows : ℕ → Step (Unit {0})
  turn_rows m = change (λ s. hold s m (with_new_row (dims core m) (s m)))

  abbrev pub enqueue : ℕ → ℕ → Step (Unit {0})
  enqueue m w = do
    ws ← look (λ s. queue_of (s m))
    ensure (nat_lt (length ws) (room core m))
    change (λ s. hold s m (with_newest w (s m)))

  abbrev pub dequeue : ℕ → Step ℕ
  dequeue m = do
    ws ← look (λ s. queue_of (s m))
    w ← first_of_queue ws
    change (λ s. hold s m (without_oldest (s m)))
    pure w

  -- the words of indices, each of which is inside of its dimension
  abbrev pub inside : ℕ → (indices : List ℕ) → Step (List ℕ)
  inside m indices = do
    ensure (are_inside (dims core m) (map index_value indices))
    pure (map (λ i. natural (index_value i)) indices)

  -- a read, by the words of its indices
  abbrev pub read_at : ℕ → (indices : List ℕ) → Step Entry
  read_at m indices = do
    is ← inside m indices
    w ← read_in m is
    pure (touched is w)

  -- a write of a word
  abbrev pub write_at : ℕ → (indices : List ℕ) → ℕ → Step Entry
  write_at m indices w = do
    is ← inside m indices
    write_in m is w
    pure (touched is w)
