-- What is left of the symbols of two forms, by the factors that symbols have in a sum, a difference or a multiple.
use Rattle.std.proofs.Common.{◌≡◌, ◌≢◌, ℕ, ℤ, pos, ◌+ℤ◌, ◌-ℤ◌, ◌*ℤ◌, Bool, true, false, refl, ap, sym, ◌∙◌, subst, arith, ◌⊎◌, inl, inr}
use Rattle.std.specs.Prelude.{Option, Some, None, if◌then◌else◌}
use Rattle.std.specs.Ordering.{int_eq}
use Rattle.std.proofs.lemmas.Int.{ints}
use Rattle.std.proofs.lemmas.Bool.Decides.{eqb_tells, nat_tests, Decides-int_eq, not_from_Decides}
use Rattle.sp_affine.specs.Affine.{factor_of}
use Rattle.sp_affine.specs.Combination.{HasFactors, HasOneSymbol, factors_of_sum, factors_of_difference, factors_of_multiple}
use Rattle.sp_patterns.specs.Forms.{sum_symbol, difference_symbol, multiple_symbol}

same_factor : (m n : ℕ) → m ≡ n → factor_of (Some m) n ≡ pos 1
same_factor m n e = grind (arith, nat_tests)

other_factor : (m n : ℕ) → m ≢ n → factor_of (Some m) n ≡ pos 0
other_factor m n e = grind (arith, nat_tests)

-- a factor is 0 or 1, and 1 at the symbol alone
cases : (s : Option ℕ) (n : ℕ) → (factor_of s n ≡ pos 0) ⊎ ((factor_of s n ≡ pos 1) × (s ≡ Some n))
cases None n = inl refl
cases (Some m) n = elim (eqb_tells m n) [ inl e ↦ inr (same_factor m n e.1, ap Some e.1) | inr e ↦ inl (other_factor m n e.1) ]

apart : (z : ℤ) → z ≡ pos 0 → z ≡ pos 1 → ⊥
apart z a b = omega (arith, ints)

is_symbol : (s : Option ℕ) (n : ℕ) → factor_of s n ≡ pos 1 → s ≡ Some n
is_symbol s n h = elim (cases s n) [ inl e ↦ absurd (apart _ e h) | inr e ↦ e.1 ]

same_symbol : (s t : Option ℕ) → ((n : ℕ) → factor_of s n ≡ factor_of t n) → s ≡ t
same_symbol None None h = refl
same_symbol None (Some m) h = is_symbol None m (h m ∙ same_factor m m refl)
same_symbol (Some m) t h = sym (is_symbol t m (sym (h m) ∙ same_factor m m refl))

-- a symbol that is left is the one that has these factors, and none is left where none has
pub record Tells (left : Option (Option ℕ)) (factor : ℕ → ℤ) : Type 0 where
  pub is_left : (s : Option ℕ) → HasFactors s factor → left ≡ Some s
  pub has : (s : Option ℕ) → left ≡ Some s → HasFactors s factor

tells_some : (s : Option ℕ) (factor : ℕ → ℤ) → HasFactors s factor → Tells (Some s) factor
tells_some s factor h = record {
  is_left = λ t k. ap Some (same_symbol s t (λ n. h n ∙ sym (k n)));
  has = λ t e. let same : s ≡ t = cc in subst (λ (u : Option ℕ). HasFactors u factor) same h;
}

tells_none : (factor : ℕ → ℤ) → ¬ HasOneSymbol factor → Tells None factor
tells_none factor h = record { is_left = λ t k. absurd (h (t, k)); has = λ t e. cc }

two_left : (m k : ℕ) → ¬ HasOneSymbol (factors_of_sum (Some m) (Some k))
two_left m k (s, h) = elim (eqb_tells m k) [
  | inl e ↦ elim (cases s k) [
    | inl f ↦ low _ _ _ (h k) (same_factor m k e.1) (same_factor k k refl) f
    | inr f ↦ high _ _ _ (h k) (same_factor m k e.1) (same_factor k k refl) f.0
  ]
  | inr e ↦
      let at_m = is_symbol s m (first _ _ _ (h m) (same_factor m m refl) (other_factor k m (λ x. e.1 (sym x)))) in
      let at_k = is_symbol s k (second _ _ _ (h k) (other_factor m k e.1) (same_factor k k refl)) in
      e.1 (inside m k (sym at_m ∙ at_k))
]
  where
    low : (f x y : ℤ) → f ≡ x +ℤ y → x ≡ pos 1 → y ≡ pos 1 → f ≡ pos 0 → ⊥
    low f x y a b c d = omega (arith, ints)

    high : (f x y : ℤ) → f ≡ x +ℤ y → x ≡ pos 1 → y ≡ pos 1 → f ≡ pos 1 → ⊥
    high f x y a b c d = omega (arith, ints)

    first : (f x y : ℤ) → f ≡ x +ℤ y → x ≡ pos 1 → y ≡ pos 0 → f ≡ pos 1
    first f x y a b c = omega (arith, ints)

    second : (f x y : ℤ) → f ≡ x +ℤ y → x ≡ pos 0 → y ≡ pos 1 → f ≡ pos 1
    second f x y a b c = omega (arith, ints)

    inside : (x y : ℕ) → Some x ≡ Some y → x ≡ y
    inside x y e = cc

zero_sum : (z : ℤ) → z ≡ pos 0 +ℤ z
zero_sum z = omega (arith, ints)

sum_zero : (z : ℤ) → z ≡ z +ℤ pos 0
sum_zero z = omega (arith, ints)

pub tells_sum : (a b : Option ℕ) → Tells (sum_symbol a b) (factors_of_sum a b)
tells_sum None b = tells_some b _ (λ n. zero_sum (factor_of b n))
tells_sum (Some m) None = tells_some (Some m) _ (λ n. sum_zero (factor_of (Some m) n))
tells_sum (Some m) (Some k) = tells_none _ (two_left m k)

-- what is taken away and wasn't there is left with the factor -1
taken_away : (a : Option ℕ) (k : ℕ) → a ≢ Some k → ¬ HasOneSymbol (factors_of_difference a (Some k))
taken_away a k e (s, h) = elim (cases a k) [
  | inl f ↦ elim (cases s k) [ inl g ↦ below _ _ _ (h k) f (same_factor k k refl) g | inr g ↦ above _ _ _ (h k) f (same_factor k k refl) g.0 ]
  | inr f ↦ e f.1
]
  where
    below : (f x y : ℤ) → f ≡ x -ℤ y → x ≡ pos 0 → y ≡ pos 1 → f ≡ pos 0 → ⊥
    below f x y a b c d = omega (arith, ints)

    above : (f x y : ℤ) → f ≡ x -ℤ y → x ≡ pos 0 → y ≡ pos 1 → f ≡ pos 1 → ⊥
    above f x y a b c d = omega (arith, ints)

less_zero : (z : ℤ) → z ≡ z -ℤ pos 0
less_zero z = omega (arith, ints)

less_itself : (x y : ℤ) → x ≡ y → pos 0 ≡ x -ℤ y
less_itself x y e = omega (arith, ints)

chosen : (x y : Option (Option ℕ)) (b : Bool) → b ≡ true → (if b then x else y) ≡ x
chosen x y b e = ap (λ t. if t then x else y) e

not_chosen : (x y : Option (Option ℕ)) (b : Bool) → b ≡ false → (if b then x else y) ≡ y
not_chosen x y b e = ap (λ t. if t then x else y) e

tells_at : (o p : Option (Option ℕ)) (factor : ℕ → ℤ) → p ≡ o → Tells o factor → Tells p factor
tells_at o p factor e h = subst (λ (q : Option (Option ℕ)). Tells q factor) (sym e) h

pub tells_difference : (a b : Option ℕ) → Tells (difference_symbol a b) (factors_of_difference a b)
tells_difference None None = tells_some None _ (λ n. less_zero (pos 0))
tells_difference (Some m) None = tells_some (Some m) _ (λ n. less_zero (factor_of (Some m) n))
tells_difference None (Some k) = tells_none _ (taken_away None k (λ e. cc))
tells_difference (Some m) (Some k) = elim (eqb_tells m k) [
  | inl e ↦ tells_at (Some None) _ _ (chosen _ _ _ e.0) (tells_some None _ (λ n. less_itself _ _ (ap (λ x. factor_of (Some x) n) e.1)))
  | inr e ↦ tells_at None _ _ (not_chosen _ _ _ e.0) (tells_none _ (taken_away (Some m) k (λ x. e.1 (inside m k x))))
]
  where
    inside : (x y : ℕ) → Some x ≡ Some y → x ≡ y
    inside x y e = cc

times_other : (m : ℕ) (by : ℤ) → by ≢ pos 0 → by ≢ pos 1 → ¬ HasOneSymbol (factors_of_multiple (Some m) by)
times_other m by not_zero not_one (s, h) =
    let is_by : factor_of s m ≡ by = h m ∙ ap (λ z. z *ℤ by) (same_factor m m refl) ∙ one_times by in
    elim (cases s m) [ inl e ↦ not_zero (sym is_by ∙ e) | inr e ↦ not_one (sym is_by ∙ e.0) ]
  where
    one_times : (z : ℤ) → pos 1 *ℤ z ≡ z
    one_times z = omega (arith, ints)

times_one : (z : ℤ) → z ≡ z *ℤ pos 1
times_one z = omega (arith, ints)

zero_times : (z : ℤ) → pos 0 ≡ pos 0 *ℤ z
zero_times z = omega (arith, ints)

times_zero : (z : ℤ) → pos 0 ≡ z *ℤ pos 0
times_zero z = omega (arith, ints)

tells : (x y : ℤ) → ((int_eq x y ≡ true) × (x ≡ y)) ⊎ ((int_eq x y ≡ false) × (x ≢ y))
tells x y = by_test (int_eq x y) refl
  where
    by_test : (b : Bool) → int_eq x y ≡ b → ((int_eq x y ≡ true) × (x ≡ y)) ⊎ ((int_eq x y ≡ false) × (x ≢ y))
    by_test true e = inl (e, (Decides-int_eq x y).0 e)
    by_test false e = inr (e, not_from_Decides _ (Decides-int_eq x y) e)

pub tells_multiple : (a : Option ℕ) (by : ℤ) → Tells (multiple_symbol a by) (factors_of_multiple a by)
tells_multiple None by = tells_some None _ (λ n. zero_times by)
tells_multiple (Some m) by = elim (tells by (pos 0)) [
  | inl e ↦ tells_at (Some None) _ _ (chosen _ _ _ e.0) (tells_some None _ (λ n. times_zero (factor_of (Some m) n) ∙ ap (λ z. factor_of (Some m) n *ℤ z) (sym e.1)))
  | inr e ↦ elim (tells by (pos 1)) [
    | inl f ↦ tells_at (Some (Some m)) _ _ (not_chosen _ _ _ e.0 ∙ chosen _ _ _ f.0) (tells_some (Some m) _ (λ n. times_one (factor_of (Some m) n) ∙ ap (λ z. factor_of (Some m) n *ℤ z) (sym f.1)))
    | inr f ↦ tells_at None _ _ (not_chosen _ _ _ e.0 ∙ not_chosen _ _ _ f.0) (tells_none _ (times_other m by e.1 f.1))
  ]
]
