-- Division of whole numbers with a sign, in the three ways that the operators on words need.
-- `pos n` is n and `negsuc n` is -(n + 1).
use Rattle.std.specs.Prelude.{ℕ, zero, suc, ◌-◌, ◌/◌, ◌%◌, ℤ, pos, negsuc, int_div, int_rem, neg_ℤ, Bool, true, false}

-- z modulo m: the number from 0 to m - 1 that differs from z by a multiple of m
unfoldable pub modulo : ℤ → ℕ → ℕ
modulo (pos n) m = n % m
modulo (negsuc n) m = m - 1 - n % m

-- z / m, rounded down
unfoldable pub floor_div : ℤ → ℕ → ℤ
floor_div (pos n) m = pos (n / m)
floor_div (negsuc n) m = negsuc (n / m)

-- z / d, rounded toward zero; 0 where d is 0
unfoldable pub quotient : ℤ → ℤ → ℤ
quotient z (pos zero) = pos 0
quotient z (pos (suc n)) = int_div z (pos (suc n))
quotient z (negsuc n) = int_div z (negsuc n)

-- what that quotient leaves of z, which has the sign of z; z where d is 0
unfoldable pub remainder : ℤ → ℤ → ℤ
remainder z (pos zero) = z
remainder z (pos (suc n)) = int_rem z (pos (suc n))
remainder z (negsuc n) = int_rem z (negsuc n)

-- n, or -n where the flag is set
abbrev pub with_sign : Bool → ℕ → ℤ
with_sign false n = pos n
with_sign true n = neg_ℤ (pos n)
