-- How many groups a controller has, and how many values its counters have.
use Rattle.std.proofs.Common.{◌≡◌, ℕ, zero, suc, ◌+◌, ◌-◌, ◌*◌, ◌/◌, ◌≤◌, ℤ, List, [], ◌∷◌, refl, ◌∙◌, ap, arith, length, map, length-append}
use Rattle.std.proofs.lemmas.Nat.{mul-le}
use Rattle.std.proofs.Math.Nat.{div-zero, suc-mul, div-lt_iff_lt-mul}
use Rattle.std.specs.Prelude.{◌<◌, flat_map, pos, ◌+ℤ◌}
use Rattle.sp_words.specs.Interface.{word_count}
use Rattle.sp_core.specs.Cost.{group_count}
use Rattle.sp_core.specs.Elements.{index_value, count_below, values_below, numbers_below}
use Rattle.sp_core.specs.History.{Bounds, last_word}
use Rattle.sp_core.specs.PlainCore.{PlainCounter}
use Rattle.sp_core.specs.Scope.{plainly, loops_of, counts_of, group_values}
use Rattle.sp_core.specs.Shape.{ceil_div}

-- so many lanes at once need no more groups than there are values
few_groups : (n m : ℕ) → ceil_div n m ≤ n
few_groups n zero = let e = div-zero (n + (0 - 1)) in omega (arith, e)
few_groups zero (suc m) = let f : (0 + (suc m - 1)) / suc m < 1 = (div-lt_iff_lt-mul {k = suc m} {x = 0 + (suc m - 1)} {y = 1} (omega arith)).1 (omega arith) in omega (arith, f)
few_groups (suc n) (suc m) =
    let p : suc n * 1 ≤ suc n * suc m = mul-le (suc n) 1 (suc n) (suc m) (omega arith) (omega arith) in
    let e : suc (suc n) * suc m ≡ suc n * suc m + suc m = suc-mul (suc n) (suc m) in
    let f : (suc n + (suc m - 1)) / suc m < suc (suc n) = (div-lt_iff_lt-mul {k = suc m} {x = suc n + (suc m - 1)} {y = suc (suc n)} (omega arith)).1 (omega (arith, p, e)) in
    omega (arith, f)

pub groups_within : (counters : List PlainCounter) (bs : List Bounds) → group_count counters (counts_of (loops_of plainly counters bs)) ≤ word_count (counts_of (loops_of plainly counters bs))
groups_within [] bs = omega arith
groups_within (c ∷ counters) [] = one c counters
  where
    one : (c : PlainCounter) (counters : List PlainCounter) → group_count (c ∷ counters) [] ≤ 1
    one c [] = omega arith
    one c (d ∷ counters) = omega arith
groups_within (c ∷ []) (b ∷ bs) =
    let n : ℕ = count_below (index_value (last_word b.from)) (index_value (last_word b.until)) c.by in
    let f = few_groups n c.par in
    omega (arith, f)
groups_within (c ∷ d ∷ counters) (b ∷ bs) =
    let n : ℕ = count_below (index_value (last_word b.from)) (index_value (last_word b.until)) c.by in
    mul-le n (group_count (d ∷ counters) (counts_of (loops_of plainly (d ∷ counters) bs))) n (word_count (counts_of (loops_of plainly (d ∷ counters) bs))) (omega arith) (groups_within (d ∷ counters) bs)

length_of_map : {A B : Type 0} (f : A → B) (xs : List A) → length (map f xs) ≡ length xs
length_of_map f [] = refl
length_of_map f (x ∷ xs) = ap suc (length_of_map f xs)

numbers_length : (n : ℕ) → length (numbers_below n) ≡ n
numbers_length zero = refl
numbers_length (suc n) = omega (arith, length-append (numbers_below n) (n ∷ []), numbers_length n)

product_length : (xs : List ℤ) (ts : List (List ℤ)) → length (flat_map (λ x. map (λ others. x ∷ others) ts) xs) ≡ length xs * length ts
product_length [] ts = omega arith
product_length (x ∷ xs) ts = omega (arith, length-append (map (λ others. x ∷ others) ts) (flat_map (λ x. map (λ others. x ∷ others) ts) xs), length_of_map (λ others. x ∷ others) ts, product_length xs ts, suc-mul (length xs) (length ts))

-- read plainly, as many groups as the counts say
pub group_number : (counters : List PlainCounter) (bs : List Bounds) → length (group_values (loops_of plainly counters bs)) ≡ word_count (counts_of (loops_of plainly counters bs))
group_number [] bs = refl
group_number (c ∷ counters) [] = refl
group_number (c ∷ counters) (b ∷ bs) =
    let from : ℤ = index_value (last_word b.from) in
    let until : ℤ = index_value (last_word b.until) in
    product_length (values_below from until c.by) (group_values (loops_of plainly counters bs))
    ∙ ap (λ n. n * length (group_values (loops_of plainly counters bs))) (length_of_map (λ k. from +ℤ pos (k * c.by)) (numbers_below (count_below from until c.by)) ∙ numbers_length (count_below from until c.by))
    ∙ ap (λ n. count_below from until c.by * n) (group_number counters bs)
