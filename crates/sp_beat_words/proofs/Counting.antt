-- Numbers of copies over time.
use Rattle.std.proofs.Common.{◌≡◌, ℕ, zero, suc, ◌+◌, ◌-◌, ◌<◌, ◌≤◌, ◌%◌, ◌^◌, ◌==◌, ◌⊎◌, inl, inr, if◌then◌else◌, Bool, true, false, pos, refl, sym, ap, ap₂, subst, ◌∙◌, arith}
use Rattle.std.proofs.Math.Nat.{mod-eq_of_lt}
use Rattle.std.proofs.lemmas.Bool.{eqb-false}
use Rattle.sp_words.specs.Types.{int_type}
use Rattle.sp_words.specs.WholeNumbers.{modulo}
use Rattle.sp_words.specs.Words.{word_add, wrap}
use Rattle.sp_words.proofs.LawLemmas.{add-KeepsWrapping}
use Rattle.sp_beat_words.specs.Numbers.{next_copy, copy_number, coming_number}

wrapped : (n : ℕ) → wrap int_type (pos n) ≡ n % 2 ^ 32
unfolding wrap modulo
wrapped n = refl

small : (n : ℕ) → n < 2 ^ 32 → n % 2 ^ 32 ≡ n
small n l = mod-eq_of_lt l

-- the sum of a number of 32 bits and 1
sum_is : (n : ℕ) → n + 1 < 2 ^ 32 → word_add int_type n 1 ≡ n + 1
sum_is n l =
    let a : n ≡ wrap int_type (pos n) = sym (wrapped n ∙ small n (omega (arith, l))) in
    let b : 1 ≡ wrap int_type (pos 1) = sym (wrapped 1 ∙ small 1 (omega arith)) in
    ap₂ (word_add int_type) a b ∙ add-KeepsWrapping int_type (pos n) (pos 1) ∙ wrapped (n + 1) ∙ small (n + 1) l

-- the gates give the next number
pub next_is : (copies n net last none sum : ℕ) → copies < 2 ^ 32 → n ≤ copies - 1 → last ≡ (if n == copies - 1 then 1 else 0) → none ≡ 0 → sum ≡ word_add int_type n 1 → net ≡ (if last == 1 then none else sum) → net ≡ next_copy copies n
next_is copies n net last none sum fits l e z s f = f ∙ by (n == copies - 1) refl e
  where
    by : (b : Bool) → (n == copies - 1) ≡ b → last ≡ (if b then 1 else 0) → (if last == 1 then none else sum) ≡ (if b then 0 else n + 1)
    by true t g = ap (λ m. if m == 1 then none else sum) g ∙ z
    by false t g = let d = eqb-false n (copies - 1) t in ap (λ m. if m == 1 then none else sum) g ∙ s ∙ sum_is n (below (n + 1) (d_below d))
      where
        d_below : (n ≡ copies - 1 → ⊥) → n < copies - 1
        d_below d = by_order (order n (copies - 1))
          where
            order : (a b : ℕ) → (a < b) ⊎ (a ≡ b) ⊎ (b < a)
            order a b = grind arith

            by_order : (n < copies - 1) ⊎ (n ≡ copies - 1) ⊎ (copies - 1 < n) → n < copies - 1
            by_order (inl h) = h
            by_order (inr (inl h)) = absurd (d h)
            by_order (inr (inr h)) = absurd (omega (arith, h, l))

        below : (m : ℕ) → n < copies - 1 → n + 1 < 2 ^ 32
        below m h = omega (arith, h, fits)

-- a number stays below the count
next_within : (copies n : ℕ) → n ≤ copies - 1 → next_copy copies n ≤ copies - 1
next_within copies n l = by (n == copies - 1) refl
  where
    order : (a b : ℕ) → (a < b) ⊎ (a ≡ b) ⊎ (b < a)
    order a b = grind arith

    by_order : (n ≡ copies - 1 → ⊥) → (n < copies - 1) ⊎ (n ≡ copies - 1) ⊎ (copies - 1 < n) → n + 1 ≤ copies - 1
    by_order d (inl h) = omega (arith, h)
    by_order d (inr (inl h)) = absurd (d h)
    by_order d (inr (inr h)) = absurd (omega (arith, h, l))

    by : (b : Bool) → (n == copies - 1) ≡ b → (if b then 0 else n + 1) ≤ copies - 1
    by true t = omega arith
    by false t = by_order (eqb-false n (copies - 1) t) (order n (copies - 1))

module _ (start first : ℕ → Bool) (copies : ℕ) where
  pub number_within : (t : ℕ) → copy_number start first copies t ≤ copies - 1
  unfolding copy_number
  number_within zero = omega arith
  number_within (suc t) = by (start t) (first t) (number_within t)
    where
      by : (a b : Bool) → copy_number start first copies t ≤ copies - 1 → (if a then copies - 1 else (if b then next_copy copies (copy_number start first copies t) else copy_number start first copies t)) ≤ copies - 1
      by true b h = omega arith
      by false true h = next_within copies (copy_number start first copies t) h
      by false false h = h

  module _ (number coming after last next : ℕ → ℕ) (enable : ℕ → ℕ) (always : (t : ℕ) → enable t ≡ 1) (begins : number 0 ≡ copies - 1) (goes : (t : ℕ) → number (suc t) ≡ (if enable t == 1 then next t else number t)) (last_is : (t : ℕ) → last t ≡ copies - 1)
      (after_is : (t : ℕ) → number t ≤ copies - 1 → after t ≡ next_copy copies (number t)) (coming_is : (t : ℕ) → coming t ≡ (if first t then after t else number t)) (next_is : (t : ℕ) → next t ≡ (if start t then last t else coming t)) where
    chosen : (t : ℕ) → number t ≡ copy_number start first copies t → coming t ≡ coming_number start first copies t
    chosen t e = coming_is t ∙ ap₂ (λ a n. if first t then a else n) (after_is t (subst (λ n. n ≤ copies - 1) (sym e) (number_within t)) ∙ ap (next_copy copies) e) e

    pub numbers_are : (t : ℕ) → number t ≡ copy_number start first copies t
    unfolding copy_number
    numbers_are zero = begins
    numbers_are (suc t) = goes t ∙ ap (λ n. if n == 1 then next t else number t) (always t) ∙ next_is t ∙ ap₂ (λ a c. if start t then a else c) (last_is t) (chosen t (numbers_are t))

    pub coming_are : (t : ℕ) → coming t ≡ coming_number start first copies t
    coming_are t = chosen t (numbers_are t)
