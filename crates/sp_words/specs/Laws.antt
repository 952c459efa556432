-- Laws of the operators on words, as statements.
use Rattle.std.specs.Prelude.{◌≡◌, ◌≢◌, ℕ, ◌-◌, ◌^◌, ◌<◌, ℤ, pos, neg_ℤ, ◌+ℤ◌, ◌*ℤ◌, ◌<ℤ◌, ◌≤ℤ◌, unsigned_abs, int_lt}
use Rattle.std.specs.Bool.{MatchBool}
use Rattle.sp_words.specs.declared.types.Ty.{Ty}
use Rattle.sp_words.specs.Types.{signed_of, width_of}
use Rattle.sp_words.specs.WholeNumbers.{modulo, floor_div, quotient, remainder, with_sign}
use Rattle.sp_words.specs.Words.{IsWord, value_of, wrap}

-- from words the operator makes a word
abbrev pub GivesWords : (Ty → ℕ → ℕ → ℕ) → Type 0
GivesWords op = (ty : Ty) (a b : ℕ) → IsWord ty a → IsWord ty b → IsWord ty (op ty a b)

-- the order of the two operands is free
abbrev pub IsCommutative : (Ty → ℕ → ℕ → ℕ) → Type 0
IsCommutative op = (ty : Ty) (a b : ℕ) → IsWord ty a → IsWord ty b → op ty a b ≡ op ty b a

-- which of two applications comes first is free, at a type
abbrev pub IsAssociativeAt : Ty → (Ty → ℕ → ℕ → ℕ) → Type 0
IsAssociativeAt ty op =
    (a b c : ℕ) → IsWord ty a → IsWord ty b → IsWord ty c → op ty (op ty a b) c ≡ op ty a (op ty b c)

abbrev pub IsAssociative : (Ty → ℕ → ℕ → ℕ) → Type 0
IsAssociative op = (ty : Ty) → IsAssociativeAt ty op

-- to wrap the operands first does not change what is left in the end
abbrev pub KeepsWrapping : (Ty → ℕ → ℕ → ℕ) → (ℤ → ℤ → ℤ) → Ty → Type 0
KeepsWrapping op rule ty = (x y : ℤ) → op ty (wrap ty x) (wrap ty y) ≡ wrap ty (rule x y)

-- z is among the numbers that the words of the type stand for
abbrev pub IsValue : Ty → ℤ → Type 0
IsValue ty z = (w : ℕ) × IsWord ty w × (value_of ty w ≡ z)

-- z is from -2 ^ (width - 1) to 2 ^ (width - 1) - 1 where the type has a sign, else from 0 to 2 ^ width - 1
abbrev pub IsInRange : Ty → ℤ → Type 0
IsInRange ty z =
    MatchBool
    (signed_of ty)
    ((neg_ℤ (pos (2 ^ (width_of ty - 1))) ≤ℤ z) × (z <ℤ pos (2 ^ (width_of ty - 1))))
    ((pos 0 ≤ℤ z) × (z <ℤ pos (2 ^ width_of ty)))

-- the number modulo m and the floor over m are those with z = floor * m + modulo, and modulo below m
abbrev pub IsFloorDivision : ℤ → ℕ → Type 0
IsFloorDivision z m = (floor_div z m *ℤ pos m +ℤ pos (modulo z m) ≡ z) × (modulo z m < m)

-- z = quotient * d + remainder; the remainder has the sign of z, and is nearer to 0 than d where d is not 0
pub record IsDivision (z d : ℤ) : Type 0 where
  pub sum : quotient z d *ℤ d +ℤ remainder z d ≡ z
  pub sign : remainder z d ≡ with_sign (int_lt z (pos 0)) (unsigned_abs (remainder z d))
  pub size : d ≢ pos 0 → unsigned_abs (remainder z d) < unsigned_abs d
