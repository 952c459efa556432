-- Accesses to memories, as steps. Each names one memory.
use Rattle.std.specs.Prelude.{ℕ, nat_lt, List, [], ◌∷◌, ◌++◌, length, slice_index, slice_index_or, slice_set, Option, Some, None}
use Rattle.sp_words.specs.Memory.{Contents, cells, queue, words}
use Rattle.sp_tree.specs.declared.statement.FaultKind.TheVariants.{Unwritten, FifoFull, FifoEmpty}
use Rattle.sp_tree.specs.Step.{Step, pure, ◌>>=◌, ◌>>◌, ensure, fault, read, change}
use Rattle.sp_tree.specs.Store.{hold, cells_of, queue_of, rows_of, words_of}

-- the memory begins to hold this
abbrev pub hold_now : ℕ → Contents → Step (Unit {0})
hold_now memory contents = change (λ s. hold s memory contents)

-- the word of a cell, which is written
abbrev pub written : (place : ℕ) → Option ℕ → Step ℕ
written place None = fault Unwritten place
written place (Some word) = pure word

-- the cell of a register or of an SRAM
abbrev pub read_cell : ℕ → (at : ℕ) → (place : ℕ) → Step ℕ
read_cell memory at place = do
  cs ← read (λ s. cells_of (s.held memory))
  written place (slice_index_or cs at None)

abbrev pub write_cell : ℕ → (at : ℕ) → ℕ → Step (Unit {0})
write_cell memory at word = do
  cs ← read (λ s. cells_of (s.held memory))
  hold_now memory (cells (slice_set cs at (Some word)))

-- the cell of a line buffer
abbrev pub read_line : ℕ → (row column : ℕ) → (place : ℕ) → Step ℕ
read_line memory row column place = do
  rs ← read (λ s. rows_of (s.held memory))
  written place (slice_index_or (slice_index_or rs row []) column None)

-- the oldest word of a FIFO, which leaves it, and a word that enters it
abbrev pub take_oldest : ℕ → (place : ℕ) → List ℕ → Step ℕ
take_oldest memory place [] = fault FifoEmpty place
take_oldest memory place (word ∷ rest) = do
  hold_now memory (queue rest)
  pure word

abbrev pub dequeue : ℕ → (place : ℕ) → Step ℕ
dequeue memory place = do
  ws ← read (λ s. queue_of (s.held memory))
  take_oldest memory place ws

abbrev pub enqueue : ℕ → (depth : ℕ) → ℕ → (place : ℕ) → Step (Unit {0})
enqueue memory depth word place = do
  ws ← read (λ s. queue_of (s.held memory))
  ensure (nat_lt (length ws) depth) FifoFull place
  hold_now memory (queue (ws ++ word ∷ []))

-- a word of a DRAM, or the word of an argument, at 0
abbrev pub read_word : ℕ → (at : ℕ) → Step ℕ
read_word memory at = read (λ s. slice_index (words_of (s.held memory)) at)

abbrev pub write_word : ℕ → (at : ℕ) → ℕ → Step (Unit {0})
write_word memory at word = do
  ws ← read (λ s. words_of (s.held memory))
  hold_now memory (words (slice_set ws at word))
