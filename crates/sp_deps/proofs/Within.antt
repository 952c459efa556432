-- How far sums of terms go.
use Rattle.std.proofs.Common.{◌≡◌, ℕ, zero, suc, ◌+◌, ◌*◌, ◌/◌, ◌^◌, ◌<◌, ◌≤◌, Bool, true, false, ℤ, pos, neg_ℤ, ◌+ℤ◌, ◌-ℤ◌, ◌*ℤ◌, ◌≤ℤ◌, ap, arith, max, unsigned_abs, FitsSigned}
use Rattle.std.specs.Int.{w64}
use Rattle.std.specs.Prelude.{Option, Some, None, if◌then◌else◌}
use Rattle.std.proofs.lemmas.Int.{ints, unsigned_abs-mul}
use Rattle.std.proofs.lemmas.Nat.{mul-le, div-add-mod'}
use Rattle.sp_deps.specs.declared.access.LoopRange.{LoopRange}
use Rattle.sp_deps.specs.declared.sum.Range.{Range}
use Rattle.sp_deps.specs.declared.sum.Term.{Term}
use Rattle.sp_deps.specs.declared.sum.Sum.{Sum}
use Rattle.sp_deps.specs.Access.{HasRange, range_of, range_between, steps_of, most_steps}
use Rattle.sp_deps.specs.Bounds.{IsEndWithin, IsWithin, IsTermWithin}
use Rattle.sp_deps.specs.Classes.{unknown}
use Rattle.sp_deps.specs.Sums.{times, least_of, greatest_of, add_ends, plus}

pub weaker_end : (n m : ℕ) (e : Option ℤ) → n ≤ m → IsEndWithin n e → IsEndWithin m e
weaker_end n m None h w = w
weaker_end n m (Some z) h w = grown n m (unsigned_abs z) h w
  where
    grown : (n m a : ℕ) → n ≤ m → a ≤ n * 2 ^ 115 → a ≤ m * 2 ^ 115
    grown n m a h w = omega arith

pub weaker : (n m : ℕ) (s : Sum) → n ≤ m → IsWithin n s → IsWithin m s
weaker n m s h w = record { least = weaker_end n m s.least h w.least; greatest = weaker_end n m s.greatest h w.greatest }

pub weaker_term : (n m : ℕ) (c : ℤ) (r : Range) → n ≤ m → IsTermWithin n c r → IsTermWithin m c r
weaker_term n m c r h w = record { least = weaker_end n m (least_of c r) h w.least; greatest = weaker_end n m (greatest_of c r) h w.greatest }

size_of_sum : (x y : ℤ) → unsigned_abs (x +ℤ y) ≤ unsigned_abs x + unsigned_abs y
size_of_sum x y = omega (arith, ints)

ends_add : (n k : ℕ) (a b : Option ℤ) → IsEndWithin k a → IsEndWithin n b → IsEndWithin (n + k) (add_ends a b)
ends_add n k None b g h = tt
ends_add n k (Some x) None g h = tt
ends_add n k (Some x) (Some y) g h = joined (unsigned_abs x) (unsigned_abs y) _ g h (size_of_sum x y)
  where
    joined : (p q s : ℕ) → p ≤ k * 2 ^ 115 → q ≤ n * 2 ^ 115 → s ≤ p + q → s ≤ (n + k) * 2 ^ 115
    joined p q s g h i = omega arith

pub plus_within : (n k : ℕ) (t : Term) (s : Sum) → IsTermWithin k t.coef t.range → IsWithin n s → IsWithin (n + k) (plus t s)
plus_within n k t s g h = record { least = ends_add n k _ _ g.least h.least; greatest = ends_add n k _ _ g.greatest h.greatest }

-- a term by its two products
chosen : (b d : Bool) (p q r : Option ℤ) (n : ℕ) → IsEndWithin n p → IsEndWithin n q → IsEndWithin n r →
    IsEndWithin n (if b then p else (if d then q else r))
chosen true d p q r n g h i = g
chosen false true p q r n g h i = h
chosen false false p q r n g h i = i

by_products : (n : ℕ) (c : ℤ) (r : Range) → IsEndWithin n (times c r.least) → IsEndWithin n (times c r.greatest) → IsTermWithin n c r
by_products n c r g h = record {
  least = chosen _ _ (times c r.least) (times c r.greatest) (Some (pos 0)) n g h (omega arith);
  greatest = chosen _ _ (times c r.greatest) (times c r.least) (Some (pos 0)) n h g (omega arith);
}

product_within : (n a b : ℕ) (c x : ℤ) → unsigned_abs c ≤ a → unsigned_abs x ≤ b → a * b ≤ n * 2 ^ 115 → IsEndWithin n (times c (Some x))
product_within n a b c x g h i = joined _ _ (unsigned_abs-mul c x) (mul-le (unsigned_abs c) (unsigned_abs x) a b g h)
  where
    joined : (p q : ℕ) → p ≡ q → q ≤ a * b → p ≤ n * 2 ^ 115
    joined p q e f = omega arith

-- an end of a counter's range
small_end : (x : ℤ) → neg_ℤ (pos (2 ^ 52)) ≤ℤ x → x ≤ℤ pos (2 ^ 52) → unsigned_abs x ≤ 2 ^ 52
small_end x g h = omega (arith, ints)

ordered_ends : (x y : ℤ) → x ≤ℤ y → neg_ℤ (pos (2 ^ 52)) ≤ℤ x → y ≤ℤ pos (2 ^ 52) → (unsigned_abs x ≤ 2 ^ 52) × (unsigned_abs y ≤ 2 ^ 52)
ordered_ends x y o g h = (small_end x g (omega (arith, ints)), small_end y (omega (arith, ints)) h)

pub range_within : (n a : ℕ) (c : ℤ) (l : LoopRange) → unsigned_abs c ≤ a → a * 2 ^ 52 ≤ n * 2 ^ 115 → HasRange l → IsTermWithin n c (range_of l)
range_within n a c l g i h = by_from l.from h
  where
    by_from : (from : Option (ℤ × ℤ)) → HasRange (record l { from = from }) → IsTermWithin n c (range_between from)
    by_from None h = by_products n c (range_between None) tt tt
    by_from (Some r) h =
        let ends = ordered_ends r.0 r.1 h.ordered h.low h.high in
        by_products n c (range_between (Some r)) (product_within n a (2 ^ 52) c r.0 g ends.0 i) (product_within n a (2 ^ 52) c r.1 g ends.1 i)

pub unknown_within : (c : ℤ) → IsTermWithin 0 c unknown
unknown_within c = by_products 0 c unknown tt tt

pub difference_small : (x y : ℤ) → FitsSigned w64 x → FitsSigned w64 y → unsigned_abs (y -ℤ x) ≤ 2 ^ 64
difference_small x y f g = omega (arith, ints)

pub opposite_small : (x : ℤ) → FitsSigned w64 x → unsigned_abs (neg_ℤ x) ≤ 2 ^ 63
opposite_small x f = omega (arith, ints)

pub itself_small : (x : ℤ) → FitsSigned w64 x → unsigned_abs x ≤ 2 ^ 63
itself_small x f = omega (arith, ints)

-- the steps of a counter, where one step is at most 2^32
most_steps_small : (by width : ℕ) → by < 2 ^ 32 → width ≤ 2 ^ 53 → by * max 1 (width / by) ≤ 2 ^ 53
most_steps_small zero width h k = omega arith
most_steps_small (suc by) width h k =
    let split = div-add-mod' width (suc by) in
    bounded (suc by) (width / suc by) (width / suc by * suc by) (omega arith) (omega (arith, split)) (omega arith)
  where
    bounded : (b q p : ℕ) → b < 2 ^ 32 + 1 → p ≤ 2 ^ 53 → p ≡ q * b → b * max 1 q ≤ 2 ^ 53
    bounded b zero p h k e = omega arith
    bounded b (suc q) p h k e =
        let greater : max 1 (suc q) ≡ suc q = omega arith in
        rw greater (let turned : b * suc q ≡ suc q * b = omega arith in omega (arith, turned, e))

width_small : (x y : ℤ) → x ≤ℤ y → neg_ℤ (pos (2 ^ 52)) ≤ℤ x → y ≤ℤ pos (2 ^ 52) → unsigned_abs (y -ℤ x) ≤ 2 ^ 53
width_small x y o g h = omega (arith, ints)

regrouped : (y : ℤ) (by s n : ℕ) → unsigned_abs y ≤ 2 ^ 63 → by * s ≤ 2 ^ 53 → unsigned_abs ((y *ℤ pos by) *ℤ pos s) ≤ 2 * 2 ^ 115
regrouped y by s n g h = joined _ _ _ (unsigned_abs-mul (y *ℤ pos by) (pos s)) (unsigned_abs-mul y (pos by)) (mul-le (unsigned_abs y) (by * s) (2 ^ 63) (2 ^ 53) g h)
  where
    joined : (p q r : ℕ) → p ≡ q * s → q ≡ r * by → r * (by * s) ≤ 2 ^ 63 * 2 ^ 53 → p ≤ 2 * 2 ^ 115
    joined p q r e f h = let grown : q * s ≡ r * by * s = ap (λ v. v * s) f in omega (arith, grown, e)

pub steps_within : (y : ℤ) (l : LoopRange) → unsigned_abs y ≤ 2 ^ 63 → l.by < 2 ^ 32 → HasRange l → IsTermWithin 2 (y *ℤ pos l.by) (steps_of l)
steps_within y l g few h =
    by_products 2 (y *ℤ pos l.by) (steps_of l) (regrouped y l.by 1 0 g (omega arith)) (by_from l.from h)
  where
    by_from : (from : Option (ℤ × ℤ)) → HasRange (record l { from = from }) → IsEndWithin 2 (times (y *ℤ pos l.by) (most_steps from l.by))
    by_from None h = tt
    by_from (Some r) h = regrouped y l.by _ 0 g (most_steps_small l.by _ few (width_small r.0 r.1 h.ordered h.low h.high))
