-- What was done in a run of a core: a tree of plain data, from which everything else that is said of a run is taken.
use Rattle.std.specs.Prelude.{ℕ, Bool, List, [], ◌∷◌, slice_index_or}

-- what an operation of a list did
pub data Entry : Type 0 where
  -- nothing: its mask was 0
  left_out : Entry
  -- it gave a word, and touched no memory
  gave : (word : ℕ) → Entry
  -- it touched its memory at these indices, an SRAM or a line buffer, which is read only so, at one for each dimension,
  -- any other at none; and the word that it read, wrote, put or took
  touched : (indices : List ℕ) → (word : ℕ) → Entry

-- the word for which an operation stands, and the one at a place of a list
abbrev pub word_of : Entry → ℕ
word_of left_out = 0
word_of (gave word) = word
word_of (touched indices word) = word

abbrev pub word_at : List Entry → ℕ → ℕ
word_at entries place = word_of (slice_index_or entries place left_out)

-- the word that a list gives, its last one
abbrev pub last_word : List Entry → ℕ
last_word [] = 0
last_word (e ∷ []) = word_of e
last_word (e ∷ rest) = last_word rest

-- what was done for the two bounds of a counter
pub record Bounds : Type 0 where
  pub from : List Entry
  pub until : List Entry

-- what was done for a span of a slice
pub data Taken : Type 0 where
  one : List Entry → Taken
  both : (from until : List Entry) → Taken

mutual
  pub data History : Type 0 where
    -- how many values each counter had, and in each group what each operation did
    inner_ran : List Bounds → (counts : List ℕ) → (groups : List (List Entry)) → History
    -- the same, and in each group the run of each stage
    outer_ran : List Bounds → (counts : List ℕ) → Groups → History
    fsm_ran : (start : List Entry) → Turns → (last_test : List Entry) → History
    branch_ran : (test : List Entry) → (taken : Bool) → History → History
    -- the words of a slice, the last range fastest
    moved : List Taken → (words : List ℕ) → History
    -- the words that a gather or scatter moved, each with the word that is its place in the DRAM
    picked : (count : List Entry) → List (ℕ × ℕ) → History

  pub data Groups : Type 0 where
    no_group : Groups
    more_group : Runs → Groups → Groups

  pub data Runs : Type 0 where
    no_run : Runs
    -- all its lanes are masked
    masked_run : Runs → Runs
    more_run : History → Runs → Runs

  pub data Turns : Type 0 where
    no_turn : Turns
    more_turn : (test : List Entry) → History → (next : List Entry) → Turns → Turns

abbrev pub groups_of : List Runs → Groups
groups_of [] = no_group
groups_of (runs ∷ rest) = more_group runs (groups_of rest)

pub record Turn : Type 0 where
  pub test : List Entry
  pub body : History
  pub next : List Entry

abbrev pub turns_of : List Turn → Turns
turns_of [] = no_turn
turns_of (t ∷ rest) = more_turn t.test t.body t.next (turns_of rest)
