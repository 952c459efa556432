-- What a contract sees of words, cells and queues in packed memory.
use Rattle.std.specs.Prelude.{ℕ, ◌≤◌, ◌==◌, List, [], ◌∷◌, ◌++◌, take, drop, Option, Some, None, if◌then◌else◌}

-- a number of bits that a word may have
abbrev pub IsBits : ℕ → Type 0
IsBits n = (1 ≤ n) × (n ≤ 64)

-- words, and how many bits each of them has
pub record WordRow : Type 0 where
  pub width : ℕ
  pub words : List ℕ

-- cells, each with a word or not written yet
pub record CellRow : Type 0 where
  pub width : ℕ
  pub cells : List (Option ℕ)

abbrev pub no_cells : CellRow
no_cells = record { width = 0; cells = [] }

-- words that wait in a queue, the oldest first, and how many may
pub record WordQueue : Type 0 where
  pub width : ℕ
  pub room : ℕ
  pub words : List ℕ

-- the cells of these words, of which those are written whose mark is 1
abbrev pub cells_from : (marks words : List ℕ) → List (Option ℕ)
cells_from (m ∷ marks) (w ∷ words) = (if m == 1 then Some w else None) ∷ cells_from marks words
cells_from _ _ = []

-- the n slots from k on, around the end
abbrev pub window : ℕ → ℕ → List ℕ → List ℕ
window k n slots = take n (drop k slots ++ take k slots)

-- the oldest word, if there is one, and all the others
abbrev pub first : List ℕ → Option ℕ
first [] = None
first (w ∷ ws) = Some w

abbrev pub rest : List ℕ → List ℕ
rest [] = []
rest (w ∷ ws) = ws
