-- What a sum, a difference or a multiple of forms comes to, whether or not a form can hold it: its coefficients and its constant may have any size, and each symbol may have any factor.
use Rattle.std.specs.Prelude.{◌≡◌, ℕ, ℤ, ◌+ℤ◌, ◌-ℤ◌, ◌*ℤ◌, List, map, FitsSigned, Option}
use Rattle.std.specs.Int.{w64}
use Rattle.std.specs.List.{All, zip}
use Rattle.sp_affine.specs.Affine.{Affine, factor_of}

pub record Combination : Type 0 where
  pub coefs : List ℤ
  pub constant : ℤ
  pub factor : ℕ → ℤ

-- two lists of one length, number by number
abbrev pub sums : List ℤ → List ℤ → List ℤ
sums xs ys = map (λ p. p.0 +ℤ p.1) (zip xs ys)

abbrev pub differences : List ℤ → List ℤ → List ℤ
differences xs ys = map (λ p. p.0 -ℤ p.1) (zip xs ys)

abbrev pub multiples : List ℤ → ℤ → List ℤ
multiples xs by = map (λ x. x *ℤ by) xs

-- the factor that each symbol has in a sum, a difference or a multiple, from the symbols of the forms
abbrev pub factors_of_sum : Option ℕ → Option ℕ → ℕ → ℤ
factors_of_sum a b n = factor_of a n +ℤ factor_of b n

abbrev pub factors_of_difference : Option ℕ → Option ℕ → ℕ → ℤ
factors_of_difference a b n = factor_of a n -ℤ factor_of b n

abbrev pub factors_of_multiple : Option ℕ → ℤ → ℕ → ℤ
factors_of_multiple a by n = factor_of a n *ℤ by

abbrev pub sum_of : Affine → Affine → Combination
sum_of a b = record {
  coefs = sums a.coefs b.coefs;
  constant = a.constant +ℤ b.constant;
  factor = factors_of_sum a.symbol b.symbol;
}

abbrev pub difference_of : Affine → Affine → Combination
difference_of a b = record {
  coefs = differences a.coefs b.coefs;
  constant = a.constant -ℤ b.constant;
  factor = factors_of_difference a.symbol b.symbol;
}

abbrev pub multiple_of : Affine → ℤ → Combination
multiple_of a by = record {
  coefs = multiples a.coefs by;
  constant = a.constant *ℤ by;
  factor = factors_of_multiple a.symbol by;
}

-- every coefficient and the constant fit 64 bits with a sign
abbrev pub IsNarrow : Combination → Type 0
IsNarrow t = All (FitsSigned w64) t.coefs × FitsSigned w64 t.constant

-- this symbol, or none, has just these factors
abbrev pub HasFactors : Option ℕ → (ℕ → ℤ) → Type 0
HasFactors symbol factor = (n : ℕ) → factor_of symbol n ≡ factor n

-- at most one symbol is left, and its factor is 1
abbrev pub HasOneSymbol : (ℕ → ℤ) → Type 0
HasOneSymbol factor = (symbol : Option ℕ) × HasFactors symbol factor

-- the form is the combination
pub record Equals (f : Affine) (t : Combination) : Type 0 where
  pub coefs : f.coefs ≡ t.coefs
  pub constant : f.constant ≡ t.constant
  pub factors : HasFactors f.symbol t.factor
