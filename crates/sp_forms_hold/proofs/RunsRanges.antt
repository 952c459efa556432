-- Values of a counter: from its first bound up to its second.
use Rattle.std.proofs.Common.{◌≡◌, ℕ, zero, suc, ◌+◌, ◌-◌, ◌*◌, ◌/◌, ◌^◌, ◌<◌, ◌≤◌, Bool, true, false, ℤ, pos, negsuc, neg_ℤ, ◌+ℤ◌, ◌-ℤ◌, ◌≤ℤ◌, ◌<ℤ◌, List, [], ◌∷◌, map, flat_map, Option, Some, None, IfSome, All, refl, arith, le-div_iff_mul-le, if◌then◌else◌, int_lt}
use Rattle.std.proofs.lemmas.Int.{ints}
use Rattle.std.proofs.lemmas.List.Elements.{All-nil, All-head, All-tail, All-append, All-push, All-map, All-weaker}
use Rattle.sp_core.specs.Elements.{natural, numbers_below, length_between, count_below, values_below}
use Rattle.sp_patterns.specs.Ranges.{range_between}
use Rattle.sp_hold.specs.Values.{IsInt, IsInRange}
use native.Mathlib.Nat.{div-zero}

all_below : (n : ℕ) → All (λ k. k < n) (numbers_below n)
all_below zero = All-nil _
all_below (suc n) = All-push (λ k. k < suc n) (numbers_below n) n (All-weaker (λ k. k < n) (λ k. k < suc n) (λ k h. omega (arith, h)) (numbers_below n) (all_below n)) (omega arith)

-- a step that fits as often as it is counted doesn't reach the end
some_before : (n step k : ℕ) → k < (n + (step - 1)) / step → k * step < n
some_before n zero k h = let none : (n + (0 - 1)) / 0 ≡ 0 = div-zero (n + (0 - 1)) in absurd (omega (arith, h, none))
some_before n (suc step) k h =
    let times : suc k * suc step ≤ n + (suc step - 1) = (le-div_iff_mul-le {k = suc step} {x = suc k} {y = n + (suc step - 1)} (omega arith)).0 (omega (arith, h)) in
    let same : suc k * suc step ≡ k * suc step + suc step = omega arith in
    omega (arith, times, same)

distance : (z : ℤ) (n : ℕ) → n < natural z → pos n <ℤ z
distance (pos m) n h = omega (arith, ints, h)
distance (negsuc m) n h = absurd (omega (arith, h))

-- a value lies between the bounds
pub record IsBetween (a b v : ℤ) : Type 0 where
  pub above : a ≤ℤ v
  pub below : v <ℤ b

before_end : (a b v : ℤ) (d : ℕ) → v ≡ a +ℤ pos d → pos d <ℤ (b -ℤ a) → IsBetween a b v
before_end a b v d e h = record { above = omega (arith, ints, e); below = omega (arith, ints, e, h) }

pub all_between : (a b : ℤ) (step : ℕ) → All (IsBetween a b) (values_below a b step)
all_between a b step =
    All-map (IsBetween a b) (λ k. a +ℤ pos (k * step)) (numbers_below (count_below a b step))
    (All-weaker (λ k. k < count_below a b step) (λ k. IsBetween a b (a +ℤ pos (k * step))) (λ k h. before_end a b _ (k * step) refl (distance (b -ℤ a) (k * step) (some_before (length_between a b) step k h)))
    (numbers_below (count_below a b step)) (all_below (count_below a b step)))

not_less : (x y : ℤ) → int_lt x y ≡ false → y ≤ℤ x
not_less x y h = grind (arith, ints)

-- in the range between bounds that are known
pub in_range : (a b v : ℤ) (r q : Option ℤ) → IfSome r (λ x. a ≡ x) → IfSome q (λ x. b ≡ x) → IsBetween a b v → IsInRange (range_between r q) v
in_range a b v None None h k w = tt
in_range a b v None (Some y) h k w = tt
in_range a b v (Some x) None h k w = tt
in_range a b v (Some x) (Some y) h k w = by_test (int_lt x y) refl
  where
    above : x ≤ℤ v
    above = let u = w.above in omega (arith, ints, h, u)

    below : v ≤ℤ (y -ℤ pos 1)
    below = let u = w.below in omega (arith, ints, k, u)

    by_test : (t : Bool) → int_lt x y ≡ t → (x ≤ℤ v) × (v ≤ℤ (if t then y -ℤ pos 1 else x))
    by_test true e = (above, below)
    by_test false e = let u = not_less x y e in (above, omega (arith, ints, u, above, below))

pub is_int : (a b v : ℤ) → neg_ℤ (pos (2 ^ 31)) ≤ℤ a → b <ℤ pos (2 ^ 31) → IsBetween a b v → IsInt v
is_int a b v h k w = let u = w.above in let x = w.below in (omega (arith, ints, h, u), omega (arith, ints, k, x))

-- a first one and others, in every way
with_first : (S : List ℤ → Type 0) (R : List ℤ → Type 0) (x : ℤ) (lists : List (List ℤ)) → ((t : List ℤ) → R t → S (x ∷ t)) → All R lists → All S (map (λ t. x ∷ t) lists)
with_first S R x lists f h = All-map S (λ t. x ∷ t) lists (All-weaker R (λ t. S (x ∷ t)) f lists h)

pub all_ways : (Q : ℤ → Type 0) (R S : List ℤ → Type 0) (xs : List ℤ) (lists : List (List ℤ)) → ((x : ℤ) (t : List ℤ) → Q x → R t → S (x ∷ t)) → All Q xs → All R lists → All S (flat_map (λ x. map (λ t. x ∷ t) lists) xs)
all_ways Q R S [] lists f h k = All-nil S
all_ways Q R S (x ∷ xs) lists f h k =
    All-append S (map (λ t. x ∷ t) lists) _ (with_first S R x lists (λ t r. f x t (All-head Q x xs h) r) k) (all_ways Q R S xs lists f (All-tail Q x xs h) k)
