-- A product that is capped, factor by factor.
use Rattle.std.proofs.Common.{◌≡◌, ℕ, zero, suc, ◌+◌, ◌*◌, ◌<◌, ◌≤◌, min, List, [], ◌∷◌, ◌++◌, length, get_or, take, sym, ap, ◌∙◌, ◌⊎◌, inl, inr, arith, mul_assoc}
use Rattle.std.proofs.lemmas.List.{take_more}
use Rattle.std.proofs.lemmas.Bool.{cases_lt}
use Rattle.std.proofs.Math.Nat.{min-eq_left, mul-le-mul_right, le_of_lt}
use Rattle.sp_words.specs.Interface.{word_count}

capped_product : (m c d : ℕ) → (m < c) ⊎ (c ≤ m) → min (min c m * suc d) m ≡ min (c * suc d) m
capped_product m c d (inl above) =
    let e : min c m ≡ m = omega arith in
    rw e (omega (arith, mul-le-mul_right (suc d) (le_of_lt above)))
capped_product m c d (inr within) = ap (λ n. min (n * suc d) m) (min-eq_left within)

pub capped_times : (m b c d : ℕ) → b ≡ min c m → min (b * d) m ≡ min (c * d) m
capped_times m b c zero e = omega arith
capped_times m b c (suc d) e = ap (λ n. min (n * suc d) m) e ∙ capped_product m c d (cases_lt m c)

word_count-push : (dims : List ℕ) (d : ℕ) → word_count (dims ++ d ∷ []) ≡ word_count dims * d
word_count-push [] d = omega arith
word_count-push (x ∷ dims) d = ap (λ n. x * n) (word_count-push dims d) ∙ sym (mul_assoc x (word_count dims) d)

pub word_count-more : (dims : List ℕ) (i : ℕ) (d : ℕ) → i < length dims → d ≡ get_or dims i 0 → word_count (take (i + 1) dims) ≡ word_count (take i dims) * d
word_count-more dims i d within is =
    ap word_count (take_more dims i 0 within ∙ ap (λ x. take i dims ++ x ∷ []) (sym is)) ∙ word_count-push (take i dims) d
