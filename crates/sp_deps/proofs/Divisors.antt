-- Euclid's algorithm gives the greatest common divisor.
use Rattle.std.proofs.Common.{◌≡◌, ℕ, zero, suc, ◌+◌, ◌%◌, ◌<◌, refl, arith}
use Rattle.std.specs.Int.{IsGcd}
use Rattle.std.proofs.lemmas.Nat.{mod_below}
use Rattle.std.proofs.lemmas.Nat.Gcd.{IsGcd-from_zero, IsGcd-from_mod, le_of_dvd, dvd_antisymm, dvd-zero}
use Rattle.sp_deps.specs.Sums.{gcd, gcd_within}

gcd_within_is : (steps a b : ℕ) → b < steps → IsGcd a b (gcd_within steps a b)
unfolding gcd_within
gcd_within_is zero a b h = absurd (omega arith)
gcd_within_is (suc steps) a zero h = IsGcd-from_zero a 0 refl
gcd_within_is (suc steps) a (suc b) h =
    let less = mod_below a (suc b) (omega arith) in
    IsGcd-from_mod a (suc b) _ (gcd_within_is steps (suc b) (a % suc b) (omega arith))

pub gcd_is : (a b : ℕ) → IsGcd a b (gcd a b)
unfolding gcd
gcd_is a b = gcd_within_is (b + 1) a b (omega arith)

-- a common divisor of numbers below n is below n, if it is the greatest
pub below_both : (a b g : ℕ) → IsGcd a b g → (n : ℕ) → a < n → b < n → g < n
below_both (suc a) b g h n p q = let few = le_of_dvd (omega arith) h.0 in omega (arith, few)
below_both zero (suc b) g h n p q = let few = le_of_dvd (omega arith) h.1 in omega (arith, few)
below_both zero zero g h n p q =
    let none : g ≡ 0 = dvd_antisymm (dvd-zero g) (h.2 0 (dvd-zero 0) (dvd-zero 0)) in
    omega (arith, none)
