-- The numbers of registers that are added.
use Rattle.std.proofs.Common.{◌≡◌, ◌≤◌, ◌<◌, ◌+◌, ◌-◌, ℕ, suc, List, [], ◌∷◌, ◌++◌, length, length-append, add-one, Some, None, arith, refl, sym, ap, ◌∙◌}
use Rattle.sp_core.specs.PlainCore.{PlainMem}
use Rattle.sp_sugar.specs.Numbers.{numbers_from}
use Rattle.sp_sugar.specs.Stages.{first_of}

-- one number, and those after it
pub numbers_more : (i n : ℕ) → i < n → numbers_from i (n - i) ≡ i ∷ numbers_from (i + 1) (n - (i + 1))
numbers_more i n h =
    let e : n - i ≡ suc (n - (i + 1)) = omega arith in
    ap (numbers_from i) e ∙ ap (λ k. i ∷ numbers_from k (n - (i + 1))) (sym (add-one i))

pub no_numbers : (i n : ℕ) → n ≤ i → numbers_from i (n - i) ≡ []
no_numbers i n h = let e : n - i ≡ 0 = omega arith in ap (numbers_from i) e

-- those of what was added
pub added_numbers : (first end : ℕ) (before after added : List PlainMem) → first ≡ length before → end ≡ length after → after ≡ before ++ added
    → numbers_from first (end - first) ≡ numbers_from (length before) (length added)
added_numbers first end before after added f e same =
    let n : length after ≡ length before + length added = ap length same ∙ length-append before added in
    let k : end - first ≡ length added = omega arith in
    ap (λ i. numbers_from i (end - first)) f ∙ ap (numbers_from (length before)) k

-- the first one
pub first_is : (first : ℕ) (before added : List PlainMem) → first < length (before ++ added) → first ≡ length before → Some first ≡ first_of first added
first_is first before [] h e = let n = length-append before [] in absurd (omega arith)
first_is first before (m ∷ ms) h e = refl

pub none_is : (first : ℕ) (before added : List PlainMem) → length (before ++ added) ≤ first → first ≡ length before → None ≡ first_of first added
none_is first before [] h e = refl
none_is first before (m ∷ ms) h e = let n = length-append before (m ∷ ms) in absurd (omega arith)
