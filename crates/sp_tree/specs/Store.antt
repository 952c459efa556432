-- What a program has between two steps.
use Rattle.std.specs.Prelude.{ℕ, ◌==◌, true, false, List, [], Option, Some}
use Rattle.sp_words.specs.Memory.{Contents, cells, queue, rows, words}

-- what each live memory holds, DRAMs, arguments and outputs among them, and the words that values and counters
-- stand for; all by number
pub record Store : Type 0 where
  pub held : ℕ → Option Contents
  pub values : ℕ → ℕ
  pub counts : ℕ → ℕ

-- the same but for what stands at one number
abbrev pub changed : {A : Type 0} → (ℕ → A) → ℕ → A → ℕ → A
changed was number now k = elim (k == number) [ true ↦ now | false ↦ was k ]

-- the store in which a memory holds these contents, a value stands for a word, and a counter does
abbrev pub hold : Store → ℕ → Contents → Store
hold s memory contents = record s { held = changed s.held memory (Some contents) }

abbrev pub name_value : Store → ℕ → ℕ → Store
name_value s value word = record s { values = changed s.values value word }

abbrev pub set_counter : Store → ℕ → ℕ → Store
set_counter s counter word = record s { counts = changed s.counts counter word }

-- the cells, the queue, the rows and the words of a memory that holds such, and none of another
abbrev pub cells_of : Option Contents → List (Option ℕ)
cells_of (Some (cells cs)) = cs
cells_of _ = []

abbrev pub queue_of : Option Contents → List ℕ
queue_of (Some (queue ws)) = ws
queue_of _ = []

abbrev pub rows_of : Option Contents → List (List (Option ℕ))
rows_of (Some (rows rs)) = rs
rows_of _ = []

abbrev pub words_of : Option Contents → List ℕ
words_of (Some (words ws)) = ws
words_of _ = []
