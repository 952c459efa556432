-- Quotient and remainder by sign and absolute value.
use Rattle.std.proofs.Common.{◌≡◌, ℕ, zero, suc, ◌*◌, ◌/◌, ◌%◌, ◌<◌, Bool, true, false, refl, sym, ◌∙◌, ap, arith}
use Rattle.std.specs.Prelude.{ℤ, pos, negsuc, ◌*ℤ◌, neg_ℤ, unsigned_abs, int_lt, not}
use Rattle.std.proofs.lemmas.Int.{unsigned_abs-mul}
use Rattle.std.proofs.lemmas.Bool.Decides.{nat_tests}
use Rattle.std.proofs.Math.Nat.{mul-pos, zero-lt-suc, div-zero, mod-zero}
use Rattle.std.proofs.Math.Bool.{beq}
use Rattle.sp_words.specs.WholeNumbers.{quotient, remainder, with_sign}

abbrev is_below : ℤ → Bool
is_below (pos n) = false
is_below (negsuc n) = true

below-zero : (z : ℤ) → int_lt z (pos 0) ≡ is_below z
below-zero (pos n) = grind (arith, nat_tests)
below-zero (negsuc n) = refl

quotient_signs : (z d : ℤ) → quotient z d ≡ with_sign (not (beq (is_below z) (is_below d))) (unsigned_abs z / unsigned_abs d)
unfolding quotient
quotient_signs (pos n) (pos zero) = ap pos (sym (div-zero n))
quotient_signs (pos n) (pos (suc k)) = refl
quotient_signs (pos n) (negsuc k) = refl
quotient_signs (negsuc n) (pos zero) = ap (λ m. neg_ℤ (pos m)) (sym (div-zero (suc n)))
quotient_signs (negsuc n) (pos (suc k)) = refl
quotient_signs (negsuc n) (negsuc k) = refl

remainder_by : (z d : ℤ) → remainder z d ≡ with_sign (is_below z) (unsigned_abs z % unsigned_abs d)
unfolding remainder
remainder_by (pos n) (pos zero) = ap pos (sym (mod-zero n))
remainder_by (pos n) (pos (suc k)) = refl
remainder_by (pos n) (negsuc k) = refl
remainder_by (negsuc n) (pos zero) = ap (λ m. neg_ℤ (pos m)) (sym (mod-zero (suc n)))
remainder_by (negsuc n) (pos (suc k)) = refl
remainder_by (negsuc n) (negsuc k) = refl

pub remainder_signs : (z d : ℤ) → remainder z d ≡ with_sign (int_lt z (pos 0)) (unsigned_abs z % unsigned_abs d)
unfolding remainder
remainder_signs z d = remainder_by z d ∙ ap (λ s. with_sign s (unsigned_abs z % unsigned_abs d)) (sym (below-zero z))

below-negated : (n : ℕ) → 0 < n → is_below (neg_ℤ (pos n)) ≡ true
below-negated zero h = absurd (omega arith)
below-negated (suc n) h = refl

below-scaled : (x : ℤ) (k : ℕ) → 0 < k → is_below (x *ℤ pos k) ≡ is_below x
below-scaled (pos a) k h = refl
below-scaled (negsuc a) k h = below-negated (suc a * k) (mul-pos (zero-lt-suc a) h)

pub quotient_scaled : (x d : ℤ) (k : ℕ) → 0 < k
    → quotient (x *ℤ pos k) d ≡ with_sign (not (beq (int_lt x (pos 0)) (int_lt d (pos 0)))) (unsigned_abs x * k / unsigned_abs d)
quotient_scaled x d k h =
    quotient_signs (x *ℤ pos k) d
    ∙ ap (λ s. with_sign (not (beq s (is_below d))) (unsigned_abs (x *ℤ pos k) / unsigned_abs d)) (below-scaled x k h ∙ sym (below-zero x))
    ∙ ap (λ s. with_sign (not (beq (int_lt x (pos 0)) s)) (unsigned_abs (x *ℤ pos k) / unsigned_abs d)) (sym (below-zero d))
    ∙ ap (λ n. with_sign (not (beq (int_lt x (pos 0)) (int_lt d (pos 0)))) (n / unsigned_abs d)) (unsigned_abs-mul x (pos k))
