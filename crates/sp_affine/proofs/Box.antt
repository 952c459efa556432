-- The least and the greatest value of a form over a box, coefficient by coefficient.
use Rattle.std.proofs.Common.{◌≡◌, ℕ, zero, suc, ◌+◌, ◌*◌, ◌<◌, ◌^◌, ℤ, pos, negsuc, neg_ℤ, ◌+ℤ◌, ◌*ℤ◌, ◌≤ℤ◌, List, [], ◌∷◌, length, get_or, take, refl, ap, ◌∙◌, arith, FitsSigned, add-one}
use Rattle.std.specs.Int.{w64, w128}
use Rattle.std.specs.Prelude.{None}
use Rattle.std.specs.List.{All}
use Rattle.std.proofs.lemmas.Int.{ints}
use Rattle.sp_affine.specs.Affine.{Affine, dot, value_of, symbol_value}
use Rattle.sp_affine.specs.Interval.{IsCounterRange, InBox, IsRange, least_product, greatest_product}
use Rattle.sp_affine.proofs.Integers.{mul-le_ℤ, mul-le_down_ℤ}

-- the sums of the least and of the greatest products
abbrev pub lows : List ℤ → List (ℤ × ℤ) → ℤ
lows [] rs = pos 0
lows (c ∷ cs) [] = pos 0
lows (c ∷ cs) (r ∷ rs) = least_product c r +ℤ lows cs rs

abbrev pub highs : List ℤ → List (ℤ × ℤ) → ℤ
highs [] rs = pos 0
highs (c ∷ cs) [] = pos 0
highs (c ∷ cs) (r ∷ rs) = greatest_product c r +ℤ highs cs rs

-- the corners of the box where they are reached
low_end : ℤ → ℤ × ℤ → ℤ
low_end (pos n) r = r.0
low_end (negsuc n) r = r.1

low_corner : List ℤ → List (ℤ × ℤ) → List ℤ
low_corner cs [] = []
low_corner [] (r ∷ rs) = []
low_corner (c ∷ cs) (r ∷ rs) = low_end c r ∷ low_corner cs rs

high_end : ℤ → ℤ × ℤ → ℤ
high_end (pos n) r = r.1
high_end (negsuc n) r = r.0

high_corner : List ℤ → List (ℤ × ℤ) → List ℤ
high_corner cs [] = []
high_corner [] (r ∷ rs) = []
high_corner (c ∷ cs) (r ∷ rs) = high_end c r ∷ high_corner cs rs

least_product-below : (c : ℤ) (r : ℤ × ℤ) (x : ℤ) → r.0 ≤ℤ x → x ≤ℤ r.1 → least_product c r ≤ℤ (c *ℤ x)
least_product-below (pos n) r x h k = mul-le_ℤ n r.0 x h
least_product-below (negsuc n) r x h k = mul-le_down_ℤ n x r.1 k

greatest_product-above : (c : ℤ) (r : ℤ × ℤ) (x : ℤ) → r.0 ≤ℤ x → x ≤ℤ r.1 → (c *ℤ x) ≤ℤ greatest_product c r
greatest_product-above (pos n) r x h k = mul-le_ℤ n x r.1 k
greatest_product-above (negsuc n) r x h k = mul-le_down_ℤ n r.0 x h

sums_le : (a b c d : ℤ) → a ≤ℤ c → b ≤ℤ d → (a +ℤ b) ≤ℤ (c +ℤ d)
sums_le a b c d h k = omega (arith, ints)

lows-below : (cs : List ℤ) (rs : List (ℤ × ℤ)) (xs : List ℤ) → InBox rs xs → lows cs rs ≤ℤ dot cs xs
lows-below [] rs xs h = omega (arith, ints)
lows-below (c ∷ cs) [] [] h = omega (arith, ints)
lows-below (c ∷ cs) [] (x ∷ xs) h = absurd h
lows-below (c ∷ cs) (r ∷ rs) [] h = absurd h
lows-below (c ∷ cs) (r ∷ rs) (x ∷ xs) h = sums_le _ _ _ _ (least_product-below c r x h.0 h.1) (lows-below cs rs xs h.2)

highs-above : (cs : List ℤ) (rs : List (ℤ × ℤ)) (xs : List ℤ) → InBox rs xs → dot cs xs ≤ℤ highs cs rs
highs-above [] rs xs h = omega (arith, ints)
highs-above (c ∷ cs) [] [] h = omega (arith, ints)
highs-above (c ∷ cs) [] (x ∷ xs) h = absurd h
highs-above (c ∷ cs) (r ∷ rs) [] h = absurd h
highs-above (c ∷ cs) (r ∷ rs) (x ∷ xs) h = sums_le _ _ _ _ (greatest_product-above c r x h.0 h.1) (highs-above cs rs xs h.2)

at_head : (r : ℤ × ℤ) (rs : List (ℤ × ℤ)) → All IsCounterRange (r ∷ rs) → IsCounterRange r
at_head r rs all = all 0 r (omega arith)

in_tail : (r : ℤ × ℤ) (rs : List (ℤ × ℤ)) → All IsCounterRange (r ∷ rs) → All IsCounterRange rs
in_tail r rs all k d h = all (suc k) d (omega arith)

le_refl : (z : ℤ) → z ≤ℤ z
le_refl z = omega (arith, ints)

low_end-in : (c : ℤ) (r : ℤ × ℤ) → r.0 ≤ℤ r.1 → (r.0 ≤ℤ low_end c r) × (low_end c r ≤ℤ r.1)
unfolding low_end
low_end-in (pos n) r h = (le_refl _, h)
low_end-in (negsuc n) r h = (h, le_refl _)

high_end-in : (c : ℤ) (r : ℤ × ℤ) → r.0 ≤ℤ r.1 → (r.0 ≤ℤ high_end c r) × (high_end c r ≤ℤ r.1)
unfolding high_end
high_end-in (pos n) r h = (h, le_refl _)
high_end-in (negsuc n) r h = (le_refl _, h)

low_corner-in : (cs : List ℤ) (rs : List (ℤ × ℤ)) → length rs ≡ length cs → All IsCounterRange rs → InBox rs (low_corner cs rs)
unfolding low_corner
low_corner-in cs [] e all = tt
low_corner-in [] (r ∷ rs) e all = absurd (omega arith)
low_corner-in (c ∷ cs) (r ∷ rs) e all =
    let inside = low_end-in c r (at_head r rs all).ordered in
    (inside.0, inside.1, low_corner-in cs rs (omega arith) (in_tail r rs all))

high_corner-in : (cs : List ℤ) (rs : List (ℤ × ℤ)) → length rs ≡ length cs → All IsCounterRange rs → InBox rs (high_corner cs rs)
unfolding high_corner
high_corner-in cs [] e all = tt
high_corner-in [] (r ∷ rs) e all = absurd (omega arith)
high_corner-in (c ∷ cs) (r ∷ rs) e all =
    let inside = high_end-in c r (at_head r rs all).ordered in
    (inside.0, inside.1, high_corner-in cs rs (omega arith) (in_tail r rs all))

low_end-product : (c : ℤ) (r : ℤ × ℤ) → c *ℤ low_end c r ≡ least_product c r
unfolding low_end
low_end-product (pos n) r = refl
low_end-product (negsuc n) r = refl

high_end-product : (c : ℤ) (r : ℤ × ℤ) → c *ℤ high_end c r ≡ greatest_product c r
unfolding high_end
high_end-product (pos n) r = refl
high_end-product (negsuc n) r = refl

dot-low_corner : (cs : List ℤ) (rs : List (ℤ × ℤ)) → dot cs (low_corner cs rs) ≡ lows cs rs
unfolding low_corner
dot-low_corner [] rs = refl
dot-low_corner (c ∷ cs) [] = refl
dot-low_corner (c ∷ cs) (r ∷ rs) = ap (λ z. z +ℤ dot cs (low_corner cs rs)) (low_end-product c r) ∙ ap (λ z. least_product c r +ℤ z) (dot-low_corner cs rs)

dot-high_corner : (cs : List ℤ) (rs : List (ℤ × ℤ)) → dot cs (high_corner cs rs) ≡ highs cs rs
unfolding high_corner
dot-high_corner [] rs = refl
dot-high_corner (c ∷ cs) [] = refl
dot-high_corner (c ∷ cs) (r ∷ rs) = ap (λ z. z +ℤ dot cs (high_corner cs rs)) (high_end-product c r) ∙ ap (λ z. greatest_product c r +ℤ z) (dot-high_corner cs rs)

-- a form without a symbol
plain : (f : Affine) (xs : List ℤ) (symbols : ℕ → ℤ) → f.symbol ≡ None → value_of f xs symbols ≡ dot f.coefs xs +ℤ f.constant
plain f xs symbols e = ap (λ s. (dot f.coefs xs +ℤ f.constant) +ℤ symbol_value s symbols) e ∙ add_zero _
  where
    add_zero : (z : ℤ) → z +ℤ pos 0 ≡ z
    add_zero z = omega (arith, ints)

-- the two sums are the range
pub range_of : (f : Affine) (rs : List (ℤ × ℤ)) (low high : ℤ) → f.symbol ≡ None → length rs ≡ length f.coefs → All IsCounterRange rs →
    low ≡ f.constant +ℤ lows f.coefs rs → high ≡ f.constant +ℤ highs f.coefs rs → IsRange f rs low high
range_of f rs low high none e all is_low is_high = record {
  above_low = λ xs symbols h. above (value_of f xs symbols) low f.constant (lows f.coefs rs) (dot f.coefs xs) (plain f xs symbols none) is_low (lows-below f.coefs rs xs h);
  below_high = λ xs symbols h. below (value_of f xs symbols) high f.constant (highs f.coefs rs) (dot f.coefs xs) (plain f xs symbols none) is_high (highs-above f.coefs rs xs h);
  low_reached = (low_corner f.coefs rs, low_corner-in f.coefs rs e all, λ symbols. plain f _ symbols none ∙ reached low f.constant (lows f.coefs rs) _ is_low (dot-low_corner f.coefs rs));
  high_reached = (high_corner f.coefs rs, high_corner-in f.coefs rs e all, λ symbols. plain f _ symbols none ∙ reached high f.constant (highs f.coefs rs) _ is_high (dot-high_corner f.coefs rs));
}
  where
    above : (v l k s d : ℤ) → v ≡ d +ℤ k → l ≡ k +ℤ s → s ≤ℤ d → l ≤ℤ v
    above v l k s d w e h = omega (arith, ints)

    below : (v l k s d : ℤ) → v ≡ d +ℤ k → l ≡ k +ℤ s → d ≤ℤ s → v ≤ℤ l
    below v l k s d w e h = omega (arith, ints)

    reached : (l k s d : ℤ) → l ≡ k +ℤ s → d ≡ s → d +ℤ k ≡ l
    reached l k s d e h = omega (arith, ints)

-- one coefficient more

lows-take_suc : (cs : List ℤ) (rs : List (ℤ × ℤ)) (i : ℕ) (d : ℤ × ℤ) → length rs ≡ length cs → i < length cs →
    lows (take (suc i) cs) (take (suc i) rs) ≡ lows (take i cs) (take i rs) +ℤ least_product (get_or cs i (pos 0)) (get_or rs i d)
lows-take_suc [] rs i d e h = absurd (omega arith)
lows-take_suc (c ∷ cs) [] i d e h = absurd (omega arith)
lows-take_suc (c ∷ cs) (r ∷ rs) zero d e h = turned (least_product c r)
  where
    turned : (z : ℤ) → z +ℤ pos 0 ≡ pos 0 +ℤ z
    turned z = omega (arith, ints)
lows-take_suc (c ∷ cs) (r ∷ rs) (suc i) d e h =
    moved (least_product c r) (lows (take (suc i) cs) (take (suc i) rs)) (lows (take i cs) (take i rs)) (least_product (get_or cs i (pos 0)) (get_or rs i d))
    (lows-take_suc cs rs i d (omega arith) (omega arith))
  where
    moved : (p whole part last : ℤ) → whole ≡ part +ℤ last → p +ℤ whole ≡ (p +ℤ part) +ℤ last
    moved p whole part last e = omega (arith, ints)

pub lows-take : (cs : List ℤ) (rs : List (ℤ × ℤ)) (i : ℕ) (d : ℤ × ℤ) → length rs ≡ length cs → i < length cs →
    lows (take (i + 1) cs) (take (i + 1) rs) ≡ lows (take i cs) (take i rs) +ℤ least_product (get_or cs i (pos 0)) (get_or rs i d)
lows-take cs rs i d e h = rw add-one (lows-take_suc cs rs i d e h)

highs-take_suc : (cs : List ℤ) (rs : List (ℤ × ℤ)) (i : ℕ) (d : ℤ × ℤ) → length rs ≡ length cs → i < length cs →
    highs (take (suc i) cs) (take (suc i) rs) ≡ highs (take i cs) (take i rs) +ℤ greatest_product (get_or cs i (pos 0)) (get_or rs i d)
highs-take_suc [] rs i d e h = absurd (omega arith)
highs-take_suc (c ∷ cs) [] i d e h = absurd (omega arith)
highs-take_suc (c ∷ cs) (r ∷ rs) zero d e h = turned (greatest_product c r)
  where
    turned : (z : ℤ) → z +ℤ pos 0 ≡ pos 0 +ℤ z
    turned z = omega (arith, ints)
highs-take_suc (c ∷ cs) (r ∷ rs) (suc i) d e h =
    moved (greatest_product c r) (highs (take (suc i) cs) (take (suc i) rs)) (highs (take i cs) (take i rs)) (greatest_product (get_or cs i (pos 0)) (get_or rs i d))
    (highs-take_suc cs rs i d (omega arith) (omega arith))
  where
    moved : (p whole part last : ℤ) → whole ≡ part +ℤ last → p +ℤ whole ≡ (p +ℤ part) +ℤ last
    moved p whole part last e = omega (arith, ints)

pub highs-take : (cs : List ℤ) (rs : List (ℤ × ℤ)) (i : ℕ) (d : ℤ × ℤ) → length rs ≡ length cs → i < length cs →
    highs (take (i + 1) cs) (take (i + 1) rs) ≡ highs (take i cs) (take i rs) +ℤ greatest_product (get_or cs i (pos 0)) (get_or rs i d)
highs-take cs rs i d e h = rw add-one (highs-take_suc cs rs i d e h)

-- how far a product goes
product_small : (c x : ℤ) → FitsSigned w64 c → neg_ℤ (pos (2 ^ 52)) ≤ℤ x → x ≤ℤ pos (2 ^ 52) → (neg_ℤ (pos (2 ^ 115)) ≤ℤ (c *ℤ x)) × ((c *ℤ x) ≤ℤ pos (2 ^ 115))
product_small (pos n) x f h k =
    let below = mul-le_ℤ n _ x h in
    let above = mul-le_ℤ n x _ k in
    (omega (arith, ints), omega (arith, ints))
product_small (negsuc n) x f h k =
    let below = mul-le_down_ℤ n _ x h in
    let above = mul-le_down_ℤ n x _ k in
    (omega (arith, ints), omega (arith, ints))

within : (r : ℤ × ℤ) → IsCounterRange r → (neg_ℤ (pos (2 ^ 52)) ≤ℤ r.0) × (r.0 ≤ℤ pos (2 ^ 52)) × (neg_ℤ (pos (2 ^ 52)) ≤ℤ r.1) × (r.1 ≤ℤ pos (2 ^ 52))
within r h = (h.low, between _ _ _ h.ordered h.high, between _ _ _ h.low h.ordered, h.high)
  where
    between : (a b c : ℤ) → a ≤ℤ b → b ≤ℤ c → a ≤ℤ c
    between a b c h k = omega (arith, ints)

pub least_product_small : (c : ℤ) (r : ℤ × ℤ) → FitsSigned w64 c → IsCounterRange r → (neg_ℤ (pos (2 ^ 115)) ≤ℤ least_product c r) × (least_product c r ≤ℤ pos (2 ^ 115))
least_product_small (pos n) r f h = let w = within r h in product_small (pos n) r.0 f w.0 w.1
least_product_small (negsuc n) r f h = let w = within r h in product_small (negsuc n) r.1 f w.2 w.3

pub greatest_product_small : (c : ℤ) (r : ℤ × ℤ) → FitsSigned w64 c → IsCounterRange r → (neg_ℤ (pos (2 ^ 115)) ≤ℤ greatest_product c r) × (greatest_product c r ≤ℤ pos (2 ^ 115))
greatest_product_small (pos n) r f h = let w = within r h in product_small (pos n) r.1 f w.2 w.3
greatest_product_small (negsuc n) r f h = let w = within r h in product_small (negsuc n) r.0 f w.0 w.1

-- what stays in 128 bits: z is a sum of a constant and of i products, and p is one product more
pub record Reach (i : ℕ) (z : ℤ) : Type 0 where
  pub above : neg_ℤ (pos (2 ^ 63 + 2 ^ 115 * i)) ≤ℤ z
  pub below : z ≤ℤ pos (2 ^ 63 + 2 ^ 115 * i)

pub product_fits : (p q : ℤ) → p ≡ q → (neg_ℤ (pos (2 ^ 115)) ≤ℤ q) × (q ≤ℤ pos (2 ^ 115)) → FitsSigned w128 p
product_fits p q e (above, below) = omega (arith, ints)

pub sum_fits : (i : ℕ) (z p q : ℤ) → i < 1024 → Reach i z → p ≡ q → (neg_ℤ (pos (2 ^ 115)) ≤ℤ q) × (q ≤ℤ pos (2 ^ 115)) → FitsSigned w128 (z +ℤ p)
sum_fits i z p q h r e (above, below) = omega (arith, ints, r.above, r.below)

pub sum_reaches : (i : ℕ) (z p q : ℤ) → Reach i z → p ≡ q → (neg_ℤ (pos (2 ^ 115)) ≤ℤ q) × (q ≤ℤ pos (2 ^ 115)) → Reach (i + 1) (z +ℤ p)
sum_reaches i z p q r e (above, below) = record { above = omega (arith, ints, r.above); below = omega (arith, ints, r.below) }

pub more : (z p k part q whole : ℤ) → z ≡ k +ℤ part → p ≡ q → whole ≡ part +ℤ q → z +ℤ p ≡ k +ℤ whole
more z p k part q whole e f g = omega (arith, ints)
