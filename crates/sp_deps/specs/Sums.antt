-- Sums of terms: a coefficient times a whole number from a range. What is known of such a sum is a number that divides it, and its least and its greatest value.
use Rattle.std.specs.Prelude.{ℕ, zero, suc, ◌+◌, ◌%◌, ◌==◌, Bool, true, ◌&&◌, not, if◌then◌else◌, ℤ, pos, ◌+ℤ◌, ◌*ℤ◌, int_lt, List, [], ◌∷◌, Option, Some, None, unsigned_abs}
use Rattle.sp_deps.specs.declared.sum.Range.{Range}
use Rattle.sp_deps.specs.declared.sum.Term.{Term}
use Rattle.sp_deps.specs.declared.sum.Sum.{Sum}

-- Euclid's algorithm, in at most so many steps
unfoldable pub gcd_within : (steps a b : ℕ) → ℕ
gcd_within zero a b = a
gcd_within (suc steps) a zero = a
gcd_within (suc steps) a (suc b) = gcd_within steps (suc b) (a % suc b)

-- the greatest common divisor; that of 0 and a number is the number
unfoldable pub gcd : ℕ → ℕ → ℕ
gcd a b = gcd_within (b + 1) a b

-- an end of a range times a coefficient
abbrev pub times : ℤ → Option ℤ → Option ℤ
times c None = None
times c (Some x) = Some (c *ℤ x)

-- the least and the greatest value of a term: a coefficient below 0 turns the range round, and 0 times anything is 0
abbrev pub least_of : ℤ → Range → Option ℤ
least_of c r = if int_lt (pos 0) c then times c r.least else (if int_lt c (pos 0) then times c r.greatest else Some (pos 0))

abbrev pub greatest_of : ℤ → Range → Option ℤ
greatest_of c r = if int_lt (pos 0) c then times c r.greatest else (if int_lt c (pos 0) then times c r.least else Some (pos 0))

-- an end of a sum, where both parts have one
abbrev pub add_ends : Option ℤ → Option ℤ → Option ℤ
add_ends None e = None
add_ends (Some x) None = None
add_ends (Some x) (Some y) = Some (x +ℤ y)

abbrev pub plus : Term → Sum → Sum
plus t s = record {
  divisor = gcd (unsigned_abs t.coef) s.divisor;
  least = add_ends (least_of t.coef t.range) s.least;
  greatest = add_ends (greatest_of t.coef t.range) s.greatest;
}

-- no term: 0 alone divides it alone
abbrev pub nothing : Sum
nothing = record { divisor = 0; least = Some (pos 0); greatest = Some (pos 0) }

-- terms, added to the sum of those that follow
abbrev pub onto : List Term → Sum → Sum
onto [] s = s
onto (t ∷ terms) s = plus t (onto terms s)

abbrev pub sum_of : List Term → Sum
sum_of terms = onto terms nothing

-- whether a number divides another one; 0 divides 0 alone
abbrev pub is_multiple : ℕ → ℤ → Bool
is_multiple zero z = unsigned_abs z == 0
is_multiple (suc d) z = unsigned_abs z % suc d == 0

abbrev pub is_from : Option ℤ → ℤ → Bool
is_from None z = true
is_from (Some x) z = not (int_lt z x)

abbrev pub is_up_to : Option ℤ → ℤ → Bool
is_up_to None z = true
is_up_to (Some x) z = not (int_lt x z)

-- whether a number may be a value of the sum: the divisor divides it, and it lies within the interval
abbrev pub may_be : Sum → ℤ → Bool
may_be s z = is_multiple s.divisor z && (is_from s.least z && is_up_to s.greatest z)
