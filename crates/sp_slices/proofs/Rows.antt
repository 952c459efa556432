-- Row-major numbers, one dimension more at a time, modulo a power.
use Rattle.std.proofs.Common.{◌≡◌, ℕ, ◌+◌, ◌*◌, ◌%◌, ◌^◌, ◌<◌, false, sym, ap, ◌∙◌, arith}
use Rattle.std.proofs.Math.Nat.{mod-add-mod, mod-eq_of_lt, add-mul, mul_assoc}
use Rattle.std.proofs.lemmas.Nat.{mul-mod_first}
use Rattle.sp_words.specs.declared.types.Ty.{Ty}
use Rattle.sp_words.specs.Types.{signed_of, frac_of, width_of}
use Rattle.sp_words.specs.Words.{word_add, word_mul}
use Rattle.sp_places.proofs.Unsigned.{sum_is, product_is}

module _ (ty : Ty) (plain : signed_of ty ≡ false) (whole : frac_of ty ≡ 0) (wide : width_of ty ≡ 32) where
  pub sum_at : (a b : ℕ) → word_add ty a b ≡ (a + b) % 2 ^ 32
  sum_at a b = sum_is ty plain whole a b ∙ ap (λ w. (a + b) % 2 ^ w) wide

  pub product_at : (a by n : ℕ) → n ≡ by → word_mul ty a n ≡ a * by % 2 ^ 32
  product_at a by n e = ap (word_mul ty a) e ∙ product_is ty plain whole a by ∙ ap (λ w. a * by % 2 ^ w) wide

-- so many times what a number leaves, and more
scaled : (m a p r : ℕ) → (a % m * p + r) % m ≡ (a * p + r) % m
scaled m a p r = sym (mod-add-mod (a % m * p) m r) ∙ ap (λ n. (n + r) % m) (mul-mod_first a p m) ∙ mod-add-mod (a * p) m r

regroup : (b s x w r : ℕ) → (b * s + x) * w + r ≡ b * (s * w) + (x * w + r)
regroup b s x w r = let e = add-mul (b * s) x w in let f = mul_assoc b s w in omega (arith, e, f)

pub row_more : (m before rows number net size x w r : ℕ) → net % m ≡ (number * w + r) % m → number ≡ (rows + x) % m → rows ≡ before * size % m → net % m ≡ (before * (size * w) + (x * w + r)) % m
row_more m before rows number net size x w r e f g =
    e ∙ ap (λ n. (n * w + r) % m) (f ∙ ap (λ n. (n + x) % m) g ∙ mod-add-mod (before * size) m x) ∙ scaled m (before * size + x) w r ∙ ap (λ n. n % m) (regroup before size x w r)

-- behind nothing
pub from_nothing : (m net before w r : ℕ) → net < m → before ≡ 0 → net % m ≡ (before * w + r) % m → net ≡ r % m
from_nothing m net before w r l z e =
    sym (mod-eq_of_lt l) ∙ e ∙ ap (λ n. (n * w + r) % m) z ∙ ap (λ n. n % m) (omega arith)

pub small_sum : (m n k : ℕ) → 0 < m → n ≡ k % m → n < m
small_sum m n k l e = omega (arith, e, l)
