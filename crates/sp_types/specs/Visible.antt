-- What is visible at a place: names, each with what it stands for, in the order of their declarations; and the names of
-- the accumulators in whose bodies the place stands.
use Rattle.std.specs.Prelude.{ℕ, Bool, if◌then◌else◌, List, [], ◌∷◌, ◌++◌, take, Option, Some, None, is_some}
use Rattle.std.specs.List.{list_any}
use Rattle.std.specs.Str.{bytes_eq}
use Rattle.sp_words.specs.declared.kind.Kind.{Kind}
use Rattle.sp_words.specs.declared.types.Ty.{Ty}

-- a memory with its kind, the type of its words, where that is known, and its dimensions; a value with its type, where
-- that is known; or a counter
pub data PlainSymbol : Type 0 where
  memory : Kind → Option Ty → (dims : List ℕ) → PlainSymbol
  value : Option Ty → PlainSymbol
  counter : PlainSymbol

pub record Visible : Type 0 where
  pub names : List (List ℕ × PlainSymbol)
  pub busy : List (List ℕ)

unfoldable pub lookup : List (List ℕ × PlainSymbol) → List ℕ → Option PlainSymbol
lookup [] name = None
lookup (entry ∷ rest) name = if bytes_eq name entry.0 then Some entry.1 else lookup rest name

-- what a name stands for, if it is visible
abbrev pub symbol_of : Visible → List ℕ → Option PlainSymbol
symbol_of seen name = lookup seen.names name

-- a name that is given; one that is visible already goes on standing for what it did
unfoldable pub declare : Visible → List ℕ → PlainSymbol → Visible
declare seen name symbol = if is_some (symbol_of seen name) then seen else record seen { names = seen.names ++ (name, symbol) ∷ [] }

-- whether the name is that of an accumulator around
unfoldable pub is_busy : Visible → List ℕ → Bool
is_busy seen name = list_any (λ acc. bytes_eq acc name) seen.busy

-- inside of the body of an accumulator
abbrev pub with_acc : Visible → List ℕ → Visible
with_acc seen acc = record seen { busy = seen.busy ++ acc ∷ [] }

-- only the first names and accumulators
abbrev pub back_to : (names busy : ℕ) → Visible → Visible
back_to names busy seen = record { names = take names seen.names; busy = take busy seen.busy }

-- at the beginning of a program
abbrev pub nothing_visible : Visible
nothing_visible = record { names = []; busy = [] }
