-- Products that are capped, and lists that fit place by place.
use Rattle.std.proofs.Common.{◌⊎◌, inl, inr, ◌≡◌, ℕ, zero, suc, ◌+◌, ◌*◌, ◌<◌, ◌≤◌, min, List, [], ◌∷◌, length, take, get_or, sym, ◌∙◌, ap, subst, arith, add-one}
use Rattle.std.specs.List.{AllZip, fold}
use Rattle.std.proofs.lemmas.List.Folds.{fold_along}
use Rattle.std.proofs.lemmas.Bool.{cases_lt}
use Rattle.std.proofs.lemmas.Slice.Zip.{AllZip-long}
use Rattle.std.proofs.Math.Nat.{min-eq_left, mul-le-mul_right, le_of_lt}
use Rattle.sp_words.specs.Interface.{word_count}

capped-suc : (m c d : ℕ) → (m < c) ⊎ (c ≤ m) → min (min c m * suc d) m ≡ min (c * suc d) m
capped-suc m c d (inl above) =
    let e : min c m ≡ m = omega arith in
    rw e (omega (arith, mul-le-mul_right (suc d) (le_of_lt above)))
capped-suc m c d (inr within) = ap (λ n. min (n * suc d) m) (min-eq_left within)

capped-step : (m b c d : ℕ) → b ≡ min c m → min (b * d) m ≡ min (c * d) m
capped-step m b c zero e = omega arith
capped-step m b c (suc d) e = ap (λ n. min (n * suc d) m) e ∙ capped-suc m c d (cases_lt m c)

-- the product from the first on
product-from : (n : ℕ) (ds : List ℕ) → fold ◌*◌ n ds ≡ n * word_count ds
product-from n [] = omega arith
product-from n (d ∷ ds) =
    let tail : fold ◌*◌ (n * d) ds ≡ n * d * word_count ds = product-from (n * d) ds in
    tail ∙ omega arith

pub capped-fold : (m : ℕ) (ds : List ℕ) → 1 ≤ m → fold (λ n d. min (n * d) m) 1 ds ≡ min (word_count ds) m
capped-fold m ds h =
    let R : ℕ → ℕ → Type 0 = λ b c. b ≡ min c m in
    let all : fold ◌*◌ 1 ds ≡ word_count ds = product-from 1 ds ∙ omega arith in
    fold_along (λ n d. min (n * d) m) ◌*◌ R (λ b c d. capped-step m b c d) 1 1 ds (omega arith) ∙ ap (λ n. min n m) all

-- ---- two lists, place by place

pub lengths_agree : {A B : Type 0} (R : A → B → Type 0) (xs : List A) (ys : List B) → ¬ (length xs ≡ length ys) → ¬ (AllZip R xs ys)
lengths_agree R xs ys apart all = apart (sym (AllZip-long R xs ys all))

-- one more pair at the next place
zip_next : {A B : Type 0} (R : A → B → Type 0) (xs : List A) (ys : List B) (i : ℕ) (x : A) (y : B)
    → i < length xs → i < length ys → x ≡ get_or xs i x → y ≡ get_or ys i y → R x y
    → AllZip R (take i xs) (take i ys) → AllZip R (take (suc i) xs) (take (suc i) ys)
zip_next R [] ys i x y h k e f r all = absurd (omega arith)
zip_next R (a ∷ xs) [] i x y h k e f r all = absurd (omega arith)
zip_next R (a ∷ xs) (b ∷ ys) zero x y h k e f r all = (subst (R a) f (subst (λ z. R z y) e r), tt)
zip_next R (a ∷ xs) (b ∷ ys) (suc i) x y h k e f r all =
    (all.0, zip_next R xs ys i x y (omega arith) (omega arith) e f r all.1)

pub zip_more : {A B : Type 0} (R : A → B → Type 0) (xs : List A) (ys : List B) (i : ℕ) (x : A) (y : B)
    → i < length xs → i < length ys → x ≡ get_or xs i x → y ≡ get_or ys i y → R x y
    → AllZip R (take i xs) (take i ys) → AllZip R (take (i + 1) xs) (take (i + 1) ys)
zip_more {A} {B} R xs ys i x y h k e f r all =
    let P : ℕ → Type 0 = λ n. AllZip R (take n xs) (take n ys) in
    subst P (sym (add-one i)) (zip_next R xs ys i x y h k e f r all)

zip_at : {A B : Type 0} (R : A → B → Type 0) (xs : List A) (ys : List B) (i : ℕ) (x : A) (y : B)
    → i < length xs → AllZip R xs ys → R (get_or xs i x) (get_or ys i y)
zip_at R [] ys i x y h all = absurd (omega arith)
zip_at R (a ∷ xs) [] i x y h all = absurd all
zip_at R (a ∷ xs) (b ∷ ys) zero x y h all = all.0
zip_at R (a ∷ xs) (b ∷ ys) (suc i) x y h all = zip_at R xs ys i x y (omega arith) all.1

-- a pair that is not so related
pub zip_not : {A B : Type 0} (R : A → B → Type 0) (xs : List A) (ys : List B) (i : ℕ) (x : A) (y : B)
    → i < length xs → x ≡ get_or xs i x → y ≡ get_or ys i y → ¬ (R x y) → ¬ (AllZip R xs ys)
zip_not R xs ys i x y h e f apart all =
    apart (subst (R x) (sym f) (subst (λ z. R z (get_or ys i y)) (sym e) (zip_at R xs ys i x y h all)))
