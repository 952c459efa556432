-- What is visible at a place of a tree, and by which numbers the program knows it.
use Rattle.std.specs.Prelude.{ℕ, ◌+◌, if◌then◌else◌, List, [], ◌∷◌, ◌++◌, map, Option, Some, None, is_some}
use Rattle.std.specs.Str.{bytes_eq}
use Rattle.sp_types.specs.Visible.{PlainSymbol, Visible}

-- what a visible name stands for, and its number among the memories, the values or the counters of the program
pub record Meant : Type 0 where
  pub symbol : PlainSymbol
  pub number : ℕ

-- a place: the names that are visible there, in the order of their declarations, and how many memories, values and
-- counters the text declares before it
pub record Here : Type 0 where
  pub names : List (List ℕ × Meant)
  pub mems : ℕ
  pub vals : ℕ
  pub counters : ℕ

unfoldable pub find : List (List ℕ × Meant) → List ℕ → Option Meant
find [] name = None
find (entry ∷ rest) name = if bytes_eq name entry.0 then Some entry.1 else find rest name

-- what a name stands for, if it is visible
abbrev pub meant_by : Here → List ℕ → Option Meant
meant_by here name = find here.names name

-- what is visible, as the rules of types see it
abbrev pub seen_at : Here → Visible
seen_at here = record { names = map (λ entry. (entry.0, entry.1.symbol)) here.names; busy = [] }

-- one more name; one that is visible already goes on standing for what it did
unfoldable pub given : List (List ℕ × Meant) → List ℕ → PlainSymbol → ℕ → List (List ℕ × Meant)
given names name symbol number = if is_some (find names name) then names else names ++ (name, record { symbol = symbol; number = number }) ∷ []

-- where a name is given to what has this number
abbrev pub give : Here → List ℕ → PlainSymbol → ℕ → Here
give here name symbol number = record here { names = given here.names name symbol number }

-- the same names, after so many more memories, values and counters
abbrev pub past : Here → (mems vals counters : ℕ) → Here
past here mems vals counters = record { names = here.names; mems = here.mems + mems; vals = here.vals + vals; counters = here.counters + counters }

-- at the beginning of a program
abbrev pub at_start : Here
at_start = record { names = []; mems = 0; vals = 0; counters = 0 }
