-- What the factors of symbols say about the symbols.
use Rattle.std.proofs.Common.{◌≡◌, ◌≢◌, ℕ, ℤ, pos, ◌+ℤ◌, ◌-ℤ◌, ◌*ℤ◌, ◌≤ℤ◌, refl, ap, sym, ◌∙◌, arith, ◌⊎◌, inl, inr}
use Rattle.std.specs.Prelude.{Option, Some, None}
use Rattle.std.proofs.lemmas.Int.{ints}
use Rattle.std.proofs.lemmas.Bool.Decides.{eqb_tells, nat_tests}
use Rattle.std.proofs.Math.IntN.{+ℤ_idl, +ℤ_idr, *ℤ-zero, zero-*ℤ}
use Rattle.sp_affine.specs.Affine.{factor_of}
use Rattle.sp_affine.specs.Combination.{HasFactors, HasOneSymbol, factors_of_sum, factors_of_difference, factors_of_multiple}

pub factor-same : (m n : ℕ) → m ≡ n → factor_of (Some m) n ≡ pos 1
factor-same m n e = grind (arith, nat_tests)

pub factor-other : (m n : ℕ) → m ≢ n → factor_of (Some m) n ≡ pos 0
factor-other m n e = grind (arith, nat_tests)

-- each factor of a form is 0 or 1, and 1 at its symbol alone
pub factor_cases : (s : Option ℕ) (n : ℕ) → (factor_of s n ≡ pos 0) ⊎ ((factor_of s n ≡ pos 1) × (s ≡ Some n))
factor_cases None n = inl refl
factor_cases (Some m) n = elim (eqb_tells m n) [ inl e ↦ inr (factor-same m n e.1, ap Some e.1) | inr e ↦ inl (factor-other m n e.1) ]

-- no symbol has another factor than 0 and 1
factor_within : (s : Option ℕ) (n : ℕ) → (pos 0 ≤ℤ factor_of s n) × (factor_of s n ≤ℤ pos 1)
factor_within s n = elim (factor_cases s n) [
  | inl e ↦ at_zero _ e
  | inr e ↦ at_one _ e.0
]
  where
    at_zero : (z : ℤ) → z ≡ pos 0 → (pos 0 ≤ℤ z) × (z ≤ℤ pos 1)
    at_zero z e = (omega (arith, ints), omega (arith, ints))

    at_one : (z : ℤ) → z ≡ pos 1 → (pos 0 ≤ℤ z) × (z ≤ℤ pos 1)
    at_one z e = (omega (arith, ints), omega (arith, ints))

-- a factor of 1 tells the symbol
factor_one : (s : Option ℕ) (n : ℕ) → factor_of s n ≡ pos 1 → s ≡ Some n
factor_one s n h = elim (factor_cases s n) [ inl e ↦ absurd (apart _ e h) | inr e ↦ e.1 ]
  where
    apart : (z : ℤ) → z ≡ pos 0 → z ≡ pos 1 → ⊥
    apart z a b = omega (arith, ints)

-- the symbol of a form is known by its factors
pub same_symbol : (s t : Option ℕ) → ((n : ℕ) → factor_of s n ≡ factor_of t n) → s ≡ t
same_symbol None None h = refl
same_symbol None (Some m) h = factor_one None m (h m ∙ factor-same m m refl)
same_symbol (Some m) t h = sym (factor_one t m (sym (h m) ∙ factor-same m m refl))

-- ---- a sum

pub sum-none : (a : Option ℕ) → HasFactors a (factors_of_sum a None)
sum-none a n = sym (+ℤ_idr (factor_of a n))

pub none-sum : (b : Option ℕ) → HasFactors b (factors_of_sum None b)
none-sum b n = sym (+ℤ_idl (factor_of b n))

pub sum-two : (m k : ℕ) → ¬ HasOneSymbol (factors_of_sum (Some m) (Some k))
sum-two m k (s, h) = elim (eqb_tells m k) [
  | inl e ↦ over _ _ _ (h k) (factor-same m k e.1) (factor-same k k refl) (factor_within s k).1
  | inr e ↦
      let at_m = factor_one s m (one_left _ _ _ (h m) (factor-same m m refl) (factor-other k m (λ x. e.1 (sym x)))) in
      let at_k = factor_one s k (one_right _ _ _ (h k) (factor-other m k e.1) (factor-same k k refl)) in
      e.1 (some_same m k (sym at_m ∙ at_k))
]
  where
    over : (f x y : ℤ) → f ≡ x +ℤ y → x ≡ pos 1 → y ≡ pos 1 → f ≤ℤ pos 1 → ⊥
    over f x y a b c d = omega (arith, ints)

    one_left : (f x y : ℤ) → f ≡ x +ℤ y → x ≡ pos 1 → y ≡ pos 0 → f ≡ pos 1
    one_left f x y a b c = omega (arith, ints)

    one_right : (f x y : ℤ) → f ≡ x +ℤ y → x ≡ pos 0 → y ≡ pos 1 → f ≡ pos 1
    one_right f x y a b c = omega (arith, ints)

    some_same : (x y : ℕ) → Some x ≡ Some y → x ≡ y
    some_same x y e = cc

-- ---- a difference

pub difference-none : (a : Option ℕ) → HasFactors a (factors_of_difference a None)
difference-none a n = less_none (factor_of a n)
  where
    less_none : (z : ℤ) → z ≡ z -ℤ pos 0
    less_none z = omega (arith, ints)

pub difference-same : (m k : ℕ) → m ≡ k → HasFactors None (factors_of_difference (Some m) (Some k))
difference-same m k e n = rw e (nothing_left (factor_of (Some k) n))
  where
    nothing_left : (z : ℤ) → pos 0 ≡ z -ℤ z
    nothing_left z = omega (arith, ints)

-- what is taken away and wasn't there is left with the factor -1
pub difference-other : (a : Option ℕ) (k : ℕ) → a ≢ Some k → ¬ HasOneSymbol (factors_of_difference a (Some k))
difference-other a k apart (s, h) = elim (factor_cases a k) [
  | inl e ↦ under _ _ _ (h k) e (factor-same k k refl) (factor_within s k).0
  | inr e ↦ apart e.1
]
  where
    under : (f x y : ℤ) → f ≡ x -ℤ y → x ≡ pos 0 → y ≡ pos 1 → pos 0 ≤ℤ f → ⊥
    under f x y a b c d = omega (arith, ints)

-- ---- a multiple

pub multiple-zero : (a : Option ℕ) → HasFactors None (factors_of_multiple a (pos 0))
multiple-zero a n = sym (*ℤ-zero (factor_of a n))

pub multiple-one : (a : Option ℕ) → HasFactors a (factors_of_multiple a (pos 1))
multiple-one a n = one_mul (factor_of a n)
  where
    one_mul : (z : ℤ) → z ≡ z *ℤ pos 1
    one_mul z = omega (arith, ints)

pub none-multiple : (by : ℤ) → HasFactors None (factors_of_multiple None by)
none-multiple by n = sym (zero-*ℤ by)

pub multiple-other : (m : ℕ) (by : ℤ) → by ≢ pos 0 → by ≢ pos 1 → ¬ HasOneSymbol (factors_of_multiple (Some m) by)
multiple-other m by not_zero not_one (s, h) =
    let is_by : factor_of s m ≡ by = h m ∙ ap (λ z. z *ℤ by) (factor-same m m refl) ∙ one_mul by in
    elim (factor_cases s m) [ inl e ↦ not_zero (sym is_by ∙ e) | inr e ↦ not_one (sym is_by ∙ e.0) ]
  where
    one_mul : (z : ℤ) → pos 1 *ℤ z ≡ z
    one_mul z = omega (arith, ints)
