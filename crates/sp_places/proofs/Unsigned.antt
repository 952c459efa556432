-- Words of types without a sign.
use Rattle.std.proofs.Common.{◌≡◌, ℕ, zero, suc, ◌+◌, ◌*◌, ◌/◌, ◌%◌, ◌^◌, ◌<◌, false, pos, ◌*ℤ◌, refl, ap, ◌∙◌, arith}
use Rattle.std.proofs.Math.Nat.{div-one}
use Rattle.sp_words.specs.declared.types.Ty.{Ty}
use Rattle.sp_words.specs.Types.{signed_of, frac_of, width_of}
use Rattle.sp_words.specs.WholeNumbers.{modulo, floor_div, quotient, remainder}
use Rattle.sp_words.specs.Words.{value_of, has_sign, wrap, word_add, word_mul, word_div, word_rem, word_cast}

once : (a : ℕ) → a * 1 ≡ a
once a = omega arith

module _ (ty : Ty) (plain : signed_of ty ≡ false) (whole : frac_of ty ≡ 0) where
  value : (a : ℕ) → value_of ty a ≡ pos a
  unfolding value_of has_sign
  value a = rw plain refl

  pub sum_is : (a b : ℕ) → word_add ty a b ≡ (a + b) % 2 ^ width_of ty
  unfolding word_add wrap modulo
  sum_is a b = rw (value a, value b) refl

  product : (a b : ℕ) → pos a *ℤ pos b ≡ pos (a * b)
  product a b = refl

  pub product_is : (a b : ℕ) → word_mul ty a b ≡ a * b % 2 ^ width_of ty
  unfolding word_mul wrap modulo floor_div
  product_is a b = rw (value a, value b, whole) (ap (λ n. n % 2 ^ width_of ty) (div-one (a * b)))

  pub quotient_is : (a n : ℕ) → word_div ty a (suc n) ≡ a / suc n % 2 ^ width_of ty
  unfolding word_div wrap modulo quotient
  quotient_is a n = rw (value a, value (suc n), whole) (ap (λ m. m / suc n % 2 ^ width_of ty) (once a))

  pub rest_is : (a n : ℕ) → word_rem ty a (suc n) ≡ a % suc n % 2 ^ width_of ty
  unfolding word_rem wrap modulo remainder
  rest_is a n = rw (value a, value (suc n)) refl

pub cast_is : (from to : Ty) → signed_of from ≡ false → frac_of from ≡ 0 → frac_of to ≡ 0 → (a : ℕ) → word_cast from to a ≡ a % 2 ^ width_of to
unfolding word_cast wrap modulo floor_div
cast_is from to plain whole other a = rw (value from plain whole a, whole, other) (ap (λ m. m % 2 ^ width_of to) (div-one (a * 1) ∙ once a))

-- at 64 bits, with a second word that is known
module _ (ty : Ty) (plain : signed_of ty ≡ false) (whole : frac_of ty ≡ 0) (wide : width_of ty ≡ 64) where
  pub sum_at : (a b : ℕ) → word_add ty a b ≡ (a + b) % 2 ^ 64
  sum_at a b = sum_is ty plain whole a b ∙ ap (λ w. (a + b) % 2 ^ w) wide

  pub product_at : (a by n : ℕ) → n ≡ by → word_mul ty a n ≡ a * by % 2 ^ 64
  product_at a by n e = ap (word_mul ty a) e ∙ product_is ty plain whole a by ∙ ap (λ w. a * by % 2 ^ w) wide

  pub quotient_at : (a by n : ℕ) → 0 < by → n ≡ by → word_div ty a n ≡ a / by % 2 ^ 64
  quotient_at a zero n l e = absurd (omega (arith, l))
  quotient_at a (suc by) n l e = ap (word_div ty a) e ∙ quotient_is ty plain whole a by ∙ ap (λ w. a / suc by % 2 ^ w) wide

  pub rest_at : (a by n : ℕ) → 0 < by → n ≡ by → word_rem ty a n ≡ a % by % 2 ^ 64
  rest_at a zero n l e = absurd (omega (arith, l))
  rest_at a (suc by) n l e = ap (word_rem ty a) e ∙ rest_is ty plain whole a by ∙ ap (λ w. a % suc by % 2 ^ w) wide
