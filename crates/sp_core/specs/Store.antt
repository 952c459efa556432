-- What a core has between two steps: what each memory holds, by number, where it has been made. The DRAM of number r
-- stands at the number of memories plus r.
use Rattle.std.specs.Prelude.{ℕ, ◌==◌, true, false, List, [], Option, Some}
use Rattle.sp_words.specs.Memory.{Contents, cells, queue, rows, words}

abbrev pub Store : Type 0
Store = ℕ → Option Contents

-- the same but for what stands at one number
abbrev pub changed : {A : Type 0} → (ℕ → A) → ℕ → A → ℕ → A
changed was number now k = elim (k == number) [ true ↦ now | false ↦ was k ]

-- the store in which a memory holds these contents
abbrev pub hold : Store → ℕ → Contents → Store
hold s memory contents = changed s memory (Some contents)

-- the cells, the queue, the rows and the words of a memory that holds such, and none of another
abbrev pub cells_of : Option Contents → List (Option ℕ)
cells_of (Some (cells cs)) = cs
cells_of _ = []

abbrev pub queue_of : Option Contents → List ℕ
queue_of (Some (queue ws)) = ws
queue_of _ = []

abbrev pub rows_of : Option Contents → List (List (Option ℕ))
rows_of (Some (rows rs)) = rs
rows_of _ = []

abbrev pub words_of : Option Contents → List ℕ
words_of (Some (words ws)) = ws
words_of _ = []
