-- An affine form is c1·x1 + .. + cn·xn + constant, over the values x1 to xn of its counters, and plus one symbol's value where it has a symbol.
-- All numbers are whole numbers with a sign, of any size: nothing wraps.
use Rattle.std.specs.Prelude.{ℕ, ℤ, pos, ◌+ℤ◌, ◌*ℤ◌, List, [], ◌∷◌, ◌==◌, if◌then◌else◌, Option, Some, None}

-- a form as a plain value: a coefficient for each counter in order, the constant, and the number of its symbol if it has one
pub record Affine : Type 0 where
  pub coefs : List ℤ
  pub constant : ℤ
  pub symbol : Option ℕ

-- each coefficient times the value of its counter, summed
abbrev pub dot : List ℤ → List ℤ → ℤ
dot [] xs = pos 0
dot (c ∷ cs) [] = pos 0
dot (c ∷ cs) (x ∷ xs) = (c *ℤ x) +ℤ dot cs xs

-- what a symbol that is there adds, where symbol n has the value `symbols n`
abbrev pub symbol_value : Option ℕ → (ℕ → ℤ) → ℤ
symbol_value None symbols = pos 0
symbol_value (Some n) symbols = symbols n

-- the value of a form at values of its counters and of the symbols
abbrev pub value_of : Affine → List ℤ → (ℕ → ℤ) → ℤ
value_of f counters symbols = (dot f.coefs counters +ℤ f.constant) +ℤ symbol_value f.symbol symbols

-- the factor of symbol n in a form: 1 where n is the form's symbol, and else 0
abbrev pub factor_of : Option ℕ → ℕ → ℤ
factor_of None n = pos 0
factor_of (Some m) n = if m == n then pos 1 else pos 0
