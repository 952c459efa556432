-- The value of a sum, a difference and a multiple of forms.
use Rattle.std.proofs.Common.{◌≡◌, ℕ, ℤ, pos, ◌+ℤ◌, ◌-ℤ◌, ◌*ℤ◌, List, [], ◌∷◌, length, refl, ap, sym, ◌∙◌, arith, inl, inr}
use Rattle.std.specs.Prelude.{Option, Some, None}
use Rattle.std.proofs.lemmas.Int.{ints}
use Rattle.std.proofs.lemmas.Bool.Decides.{eqb_tells}
use Rattle.std.proofs.Math.IntN.{zero-*ℤ}
use Rattle.sp_affine.specs.Affine.{Affine, dot, symbol_value, value_of}
use Rattle.sp_affine.specs.Combination.{Equals, HasFactors, sum_of, difference_of, multiple_of, sums, differences, multiples, factors_of_sum, factors_of_difference, factors_of_multiple}
use Rattle.sp_affine.proofs.Integers.{add-mul_ℤ, sub-mul_ℤ, mul_right_comm_ℤ}
use Rattle.sp_affine.proofs.Factors.{factor-same, factor-other, same_symbol, sum-none, none-sum, sum-two, difference-none, difference-same, difference-other}

dot-sums : (a b xs : List ℤ) → length a ≡ length b → dot (sums a b) xs ≡ dot a xs +ℤ dot b xs
dot-sums [] [] xs e = refl
dot-sums [] (d ∷ b) xs e = absurd (omega arith)
dot-sums (c ∷ a) [] xs e = absurd (omega arith)
dot-sums (c ∷ a) (d ∷ b) [] e = refl
dot-sums (c ∷ a) (d ∷ b) (x ∷ xs) e =
    let shorter : length a ≡ length b = omega arith in
    joined _ (c *ℤ x) (d *ℤ x) _ (dot a xs) (dot b xs) (add-mul_ℤ c d x) (dot-sums a b xs shorter)
  where
    joined : (cdx cx dx rest p q : ℤ) → cdx ≡ cx +ℤ dx → rest ≡ p +ℤ q → cdx +ℤ rest ≡ (cx +ℤ p) +ℤ (dx +ℤ q)
    joined cdx cx dx rest p q h k = omega (arith, ints)

dot-differences : (a b xs : List ℤ) → length a ≡ length b → dot (differences a b) xs ≡ dot a xs -ℤ dot b xs
dot-differences [] [] xs e = refl
dot-differences [] (d ∷ b) xs e = absurd (omega arith)
dot-differences (c ∷ a) [] xs e = absurd (omega arith)
dot-differences (c ∷ a) (d ∷ b) [] e = refl
dot-differences (c ∷ a) (d ∷ b) (x ∷ xs) e =
    let shorter : length a ≡ length b = omega arith in
    joined _ (c *ℤ x) (d *ℤ x) _ (dot a xs) (dot b xs) (sub-mul_ℤ c d x) (dot-differences a b xs shorter)
  where
    joined : (cdx cx dx rest p q : ℤ) → cdx ≡ cx -ℤ dx → rest ≡ p -ℤ q → cdx +ℤ rest ≡ (cx +ℤ p) -ℤ (dx +ℤ q)
    joined cdx cx dx rest p q h k = omega (arith, ints)

dot-multiples : (a : List ℤ) (by : ℤ) (xs : List ℤ) → dot (multiples a by) xs ≡ dot a xs *ℤ by
dot-multiples [] by xs = sym (zero-*ℤ by)
dot-multiples (c ∷ a) by [] = sym (zero-*ℤ by)
dot-multiples (c ∷ a) by (x ∷ xs) =
    joined _ _ _ _ _ (mul_right_comm_ℤ c by x) (dot-multiples a by xs) (add-mul_ℤ (c *ℤ x) (dot a xs) by)
  where
    joined : (cbx cxb rest restb whole : ℤ) → cbx ≡ cxb → rest ≡ restb → whole ≡ cxb +ℤ restb → cbx +ℤ rest ≡ whole
    joined cbx cxb rest restb whole h k l = omega (arith, ints)

-- ---- the symbol's part

symbol-sum : (s a b : Option ℕ) (symbols : ℕ → ℤ) → HasFactors s (factors_of_sum a b) →
    symbol_value s symbols ≡ symbol_value a symbols +ℤ symbol_value b symbols
symbol-sum s a None symbols h =
    ap (λ x. symbol_value x symbols) (same_symbol s a (λ n. h n ∙ sym (sum-none a n))) ∙ add_zero _
  where
    add_zero : (z : ℤ) → z ≡ z +ℤ pos 0
    add_zero z = omega (arith, ints)
symbol-sum s None (Some k) symbols h =
    ap (λ x. symbol_value x symbols) (same_symbol s (Some k) (λ n. h n ∙ sym (none-sum (Some k) n))) ∙ zero_add _
  where
    zero_add : (z : ℤ) → z ≡ pos 0 +ℤ z
    zero_add z = omega (arith, ints)
symbol-sum s (Some m) (Some k) symbols h = absurd (sum-two m k (s, h))

symbol-difference : (s a b : Option ℕ) (symbols : ℕ → ℤ) → HasFactors s (factors_of_difference a b) →
    symbol_value s symbols ≡ symbol_value a symbols -ℤ symbol_value b symbols
symbol-difference s a None symbols h =
    ap (λ x. symbol_value x symbols) (same_symbol s a (λ n. h n ∙ sym (difference-none a n))) ∙ less_zero _
  where
    less_zero : (z : ℤ) → z ≡ z -ℤ pos 0
    less_zero z = omega (arith, ints)
symbol-difference s None (Some k) symbols h = absurd (difference-other None k (λ e. cc) (s, h))
symbol-difference s (Some m) (Some k) symbols h = elim (eqb_tells m k) [
  | inl e ↦
      ap (λ x. symbol_value x symbols) (same_symbol s None (λ n. h n ∙ sym (difference-same m k e.1 n))) ∙ nothing _ _ (ap symbols e.1)
  | inr e ↦ absurd (difference-other (Some m) k (λ x. e.1 (some_same m k x)) (s, h))
]
  where
    nothing : (x y : ℤ) → x ≡ y → pos 0 ≡ x -ℤ y
    nothing x y e = omega (arith, ints)

    some_same : (x y : ℕ) → Some x ≡ Some y → x ≡ y
    some_same x y e = cc

symbol-multiple : (s a : Option ℕ) (by : ℤ) (symbols : ℕ → ℤ) → HasFactors s (factors_of_multiple a by) →
    symbol_value s symbols ≡ symbol_value a symbols *ℤ by
symbol-multiple s None by symbols h =
    ap (λ x. symbol_value x symbols) (same_symbol s None (λ n. h n ∙ zero-*ℤ by)) ∙ sym (zero-*ℤ by)
symbol-multiple None (Some m) by symbols h =
    let no_factor : pos 0 ≡ by = h m ∙ ap (λ z. z *ℤ by) (factor-same m m refl) ∙ one_mul by in
    mul_zero (symbols m) ∙ ap (λ z. symbols m *ℤ z) no_factor
  where
    one_mul : (z : ℤ) → pos 1 *ℤ z ≡ z
    one_mul z = omega (arith, ints)

    mul_zero : (z : ℤ) → pos 0 ≡ z *ℤ pos 0
    mul_zero z = omega (arith, ints)
symbol-multiple (Some j) (Some m) by symbols h = elim (eqb_tells m j) [
  | inl e ↦
      let one : pos 1 ≡ by = sym (factor-same j j refl) ∙ h j ∙ ap (λ z. z *ℤ by) (factor-same m j e.1) ∙ one_mul by in
      ap symbols (sym e.1) ∙ mul_one (symbols m) ∙ ap (λ z. symbols m *ℤ z) one
  | inr e ↦ absurd (apart (sym (factor-same j j refl) ∙ h j ∙ ap (λ z. z *ℤ by) (factor-other m j e.1) ∙ zero-*ℤ by))
]
  where
    one_mul : (z : ℤ) → pos 1 *ℤ z ≡ z
    one_mul z = omega (arith, ints)

    mul_one : (z : ℤ) → z ≡ z *ℤ pos 1
    mul_one z = omega (arith, ints)

    apart : pos 1 ≡ pos 0 → ⊥
    apart e = cc

-- ---- the whole value

pub value_of-sum : (f a b : Affine) → length a.coefs ≡ length b.coefs → Equals f (sum_of a b) → (counters : List ℤ) (symbols : ℕ → ℤ) →
    value_of f counters symbols ≡ value_of a counters symbols +ℤ value_of b counters symbols
value_of-sum f a b e q counters symbols =
    joined _ (dot a.coefs counters) (dot b.coefs counters) _ a.constant b.constant _ (symbol_value a.symbol symbols) (symbol_value b.symbol symbols)
    (ap (λ x. dot x counters) q.coefs ∙ dot-sums a.coefs b.coefs counters e) q.constant
    (symbol-sum f.symbol a.symbol b.symbol symbols q.factors)
  where
    joined : (d d1 d2 c c1 c2 s s1 s2 : ℤ) → d ≡ d1 +ℤ d2 → c ≡ c1 +ℤ c2 → s ≡ s1 +ℤ s2 → (d +ℤ c) +ℤ s ≡ ((d1 +ℤ c1) +ℤ s1) +ℤ ((d2 +ℤ c2) +ℤ s2)
    joined d d1 d2 c c1 c2 s s1 s2 x y z = omega (arith, ints)

pub value_of-difference : (f a b : Affine) → length a.coefs ≡ length b.coefs → Equals f (difference_of a b) → (counters : List ℤ) (symbols : ℕ → ℤ) →
    value_of f counters symbols ≡ value_of a counters symbols -ℤ value_of b counters symbols
value_of-difference f a b e q counters symbols =
    joined _ (dot a.coefs counters) (dot b.coefs counters) _ a.constant b.constant _ (symbol_value a.symbol symbols) (symbol_value b.symbol symbols)
    (ap (λ x. dot x counters) q.coefs ∙ dot-differences a.coefs b.coefs counters e) q.constant
    (symbol-difference f.symbol a.symbol b.symbol symbols q.factors)
  where
    joined : (d d1 d2 c c1 c2 s s1 s2 : ℤ) → d ≡ d1 -ℤ d2 → c ≡ c1 -ℤ c2 → s ≡ s1 -ℤ s2 → (d +ℤ c) +ℤ s ≡ ((d1 +ℤ c1) +ℤ s1) -ℤ ((d2 +ℤ c2) +ℤ s2)
    joined d d1 d2 c c1 c2 s s1 s2 x y z = omega (arith, ints)

pub value_of-multiple : (f a : Affine) (by : ℤ) → Equals f (multiple_of a by) → (counters : List ℤ) (symbols : ℕ → ℤ) →
    value_of f counters symbols ≡ value_of a counters symbols *ℤ by
value_of-multiple f a by q counters symbols =
    joined _ _ _ _ _ _ _ _ (ap (λ x. dot x counters) q.coefs ∙ dot-multiples a.coefs by counters) q.constant
    (symbol-multiple f.symbol a.symbol by symbols q.factors)
    (add-mul_ℤ (dot a.coefs counters +ℤ a.constant) (symbol_value a.symbol symbols) by)
    (add-mul_ℤ (dot a.coefs counters) a.constant by)
  where
    joined : (d d1 c c1 s s1 whole part : ℤ) → d ≡ d1 → c ≡ c1 → s ≡ s1 → whole ≡ part +ℤ s1 → part ≡ d1 +ℤ c1 → (d +ℤ c) +ℤ s ≡ whole
    joined d d1 c c1 s s1 whole part x y z w p = omega (arith, ints)
