-- Products that are capped.
use Rattle.std.proofs.Common.{◌⊎◌, inl, inr, ◌≡◌, ℕ, zero, suc, ◌*◌, ◌<◌, ◌≤◌, min, List, [], ◌∷◌, ◌∙◌, ap, arith}
use Rattle.std.specs.List.{fold}
use Rattle.std.proofs.lemmas.List.Folds.{fold_along}
use Rattle.std.proofs.lemmas.Bool.{cases_lt}
use Rattle.std.proofs.Math.Nat.{min-eq_left, mul-le-mul_right, le_of_lt}
use Rattle.sp_words.specs.Interface.{word_count}

capped-suc : (m c d : ℕ) → (m < c) ⊎ (c ≤ m) → min (min c m * suc d) m ≡ min (c * suc d) m
capped-suc m c d (inl above) =
    let e : min c m ≡ m = omega arith in
    rw e (omega (arith, mul-le-mul_right (suc d) (le_of_lt above)))
capped-suc m c d (inr within) = ap (λ n. min (n * suc d) m) (min-eq_left within)

capped-step : (m b c d : ℕ) → b ≡ min c m → min (b * d) m ≡ min (c * d) m
capped-step m b c zero e = omega arith
capped-step m b c (suc d) e = ap (λ n. min (n * suc d) m) e ∙ capped-suc m c d (cases_lt m c)

-- the product from the first on
product-from : (n : ℕ) (ds : List ℕ) → fold ◌*◌ n ds ≡ n * word_count ds
product-from n [] = omega arith
product-from n (d ∷ ds) =
    let tail : fold ◌*◌ (n * d) ds ≡ n * d * word_count ds = product-from (n * d) ds in
    tail ∙ omega arith

pub capped-fold : (m : ℕ) (ds : List ℕ) → 1 ≤ m → fold (λ n d. min (n * d) m) 1 ds ≡ min (word_count ds) m
capped-fold m ds h =
    let R : ℕ → ℕ → Type 0 = λ b c. b ≡ min c m in
    let all : fold ◌*◌ 1 ds ≡ word_count ds = product-from 1 ds ∙ omega arith in
    fold_along (λ n d. min (n * d) m) ◌*◌ R (λ b c d. capped-step m b c d) 1 1 ds (omega arith) ∙ ap (λ n. min n m) all
