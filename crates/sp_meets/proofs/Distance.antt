-- The first number of groups at which two parts of one access each meet is their distance.
use Rattle.std.proofs.Common.{◌≡◌, inl, inr, ℕ, zero, suc, ◌+◌, ◌-◌, ◌<◌, ◌≤◌, Bool, true, false, not, ◌&&◌, List, [], ◌∷◌, length, take, refl, ap, sym, ◌∙◌, subst, Vec, Global, arith}
use Rattle.std.specs.Prelude.{◌||◌, ◌==◌, if◌then◌else◌, Option, Some, IfSome}
use Rattle.std.specs.List.{All}
use Rattle.sp_affine.specs.Affine.{Affine}
use Rattle.sp_deps.specs.declared.access.Dist.{Dist}
use Rattle.sp_deps.specs.declared.access.Dist.TheVariants.{Never, AtLeast}
use Rattle.sp_deps.specs.declared.access.Footprint.{Footprint}
use Rattle.sp_deps.specs.declared.access.LoopRange.{LoopRange}
use Rattle.sp_deps.specs.declared.class.Class.TheVariants.{Same, Steps}
use Rattle.sp_deps.specs.Access.{PlainAccess, can_meet}
use Rattle.sp_deps.specs.Bounds.{HasCounters}
use Rattle.sp_deps.specs.Classes.{Loops, may_meet, have_same_symbols, is_open}
use Rattle.sp_deps.specs.Distances.{all_common, AreParallel, ArePresentAndParallel, earlier_may_meet, steps_may_meet, IsDistanceOver}
use Rattle.sp_deps.specs.Stages.{IsFootprint, loops_between, plain_accesses, meets_up_to, stages_meet}
use Rattle.sp_meets.specs.Bits.{PassesBits, NumbersPass}
use Rattle.sp_meets.specs.declared.least.Linear.TheVariants.{Other, Equal, TooMany}
use Rattle.sp_meets.specs.Steps.{loops_of, parts_meet, IsFirst, IsMost, IsOne, IsUnknown, IsLinearOf, IsDistanceOf}
use Rattle.sp_meets.proofs.Later.{no_clash, not_none}

or_none : (a b : Bool) → (a || b) ≡ false → (a ≡ false) × (b ≡ false)
or_none true b h = absurd (no_clash true refl h)
or_none false b h = (refl, h)

-- of one pair
apart_cases : (can z w s e m : Bool) → can ≡ true → z ≡ false → w ≡ false → (((can && (if z then s else (not w && (e || m)))) || false) || false) ≡ false → (e ≡ false) × (m ≡ false)
apart_cases false z w s e m f g h k = absurd (no_clash false f refl)
apart_cases true true w s e m f g h k = absurd (no_clash true refl g)
apart_cases true false true s e m f g h k = absurd (no_clash true refl h)
apart_cases true false false s true m f g h k = absurd (no_clash true refl k)
apart_cases true false false s false true f g h k = absurd (no_clash true refl k)
apart_cases true false false s false false f g h k = (refl, refl)

met_cases : (can z w s e m : Bool) → z ≡ false → (((can && (if z then s else (not w && (e || m)))) || false) || false) ≡ true → e ≡ false → m ≡ true
met_cases false z w s e m g k h = absurd (no_clash false k refl)
met_cases true true w s e m g k h = absurd (no_clash true refl g)
met_cases true false true s e m g k h = absurd (no_clash false k refl)
met_cases true false false s true m g k h = absurd (no_clash true refl h)
met_cases true false false s false true g k h = refl
met_cases true false false s false false g k h = absurd (no_clash false k refl)

module _ (a b : Footprint) (x y : PlainAccess) (is_x : IsOne a x) (is_y : IsOne b y) (can : can_meet x y ≡ true) (some : 1 ≤ length (loops_between a b).common) where
  loops : Loops
  loops = loops_between a b

  earlier : Bool
  earlier = earlier_may_meet (loops_between a b) x.forms y.forms (length (loops_between a b).common - 1)

  steps : ℕ → Bool
  steps t = steps_may_meet (loops_between a b) x.forms y.forms t

  one_pair : (t : ℕ) → parts_meet a b t ≡ stages_meet (loops_between a b) (x ∷ []) (y ∷ []) t
  one_pair t = ap (λ xs. stages_meet (loops_between a b) xs (plain_accesses b) t) is_x ∙ ap (λ ys. stages_meet (loops_between a b) (x ∷ []) ys t) is_y

  apart : (t : ℕ) → 1 ≤ t → parts_meet a b t ≡ false → (earlier_may_meet (loops_between a b) x.forms y.forms (length (loops_between a b).common - 1) ≡ false) × (meets_up_to (loops_between a b) x y t ≡ false)
  apart t h e = apart_cases (can_meet x y) (t == 0) (length (loops_between a b).common == 0) (may_meet (loops_between a b) Same x.forms y.forms) _ _ can (not_none t h) (not_none _ some) (sym (one_pair t) ∙ e)

  met : (t : ℕ) → 1 ≤ t → parts_meet a b t ≡ true → earlier_may_meet (loops_between a b) x.forms y.forms (length (loops_between a b).common - 1) ≡ false → meets_up_to (loops_between a b) x y t ≡ true
  met t h e = met_cases (can_meet x y) (t == 0) (length (loops_between a b).common == 0) (may_meet (loops_between a b) Same x.forms y.forms) _ _ (not_none t h) (sym (one_pair t) ∙ e)

  up_to_none : (n t : ℕ) → meets_up_to (loops_between a b) x y n ≡ false → 1 ≤ t → t ≤ n → steps_may_meet (loops_between a b) x.forms y.forms t ≡ false
  up_to_none zero t e h k = absurd (omega (arith, h, k))
  up_to_none (suc n) t e h k =
      let parts = or_none _ _ e in
      by_place (steps_may_meet (loops_between a b) x.forms y.forms t) t n k (λ less. up_to_none n t parts.0 h less) (λ is. ap (steps_may_meet (loops_between a b) x.forms y.forms) is ∙ parts.1)
    where
      by_place : (z : Bool) (t n : ℕ) → t ≤ suc n → (t ≤ n → z ≡ false) → (t ≡ suc n → z ≡ false) → z ≡ false
      by_place z t n h f g = grind arith

  module _ (high r : ℕ) (found : IsFirst a b 0 high r) where
    none_before : (t : ℕ) → 1 ≤ t → t < r → steps_may_meet (loops_between a b) x.forms y.forms t ≡ false
    none_before t h less = up_to_none t t (apart t h (found.first t h less)).1 h (omega arith)

    some_at : r < high → earlier_may_meet (loops_between a b) x.forms y.forms (length (loops_between a b).common - 1) ≡ false → steps_may_meet (loops_between a b) x.forms y.forms r ≡ true
    some_at less e = by_before r found.above (met r found.above (found.meets less) e) (λ t h under. (apart t h (found.first t h under)).1)
      where
        by_before : (r : ℕ) → 0 < r → meets_up_to (loops_between a b) x y r ≡ true → ((t : ℕ) → 1 ≤ t → t < r → meets_up_to (loops_between a b) x y t ≡ false) → steps_may_meet (loops_between a b) x.forms y.forms r ≡ true
        by_before zero h up below = absurd (omega (arith, h))
        by_before (suc zero) h up below = up
        by_before (suc (suc k)) h up below = last _ _ (below (suc k) (omega arith) (omega arith)) up
          where
            last : (p q : Bool) → p ≡ false → (p || q) ≡ true → q ≡ true
            last true q e h = absurd (no_clash true refl e)
            last false q e h = h

    -- an earlier counter that may go on makes it 1
    at_one : 1 < high → earlier_may_meet (loops_between a b) x.forms y.forms (length (loops_between a b).common - 1) ≡ true → r ≡ 1
    at_one room e = not_more r found.above (λ more. no_clash _ e (apart 1 (omega arith) (found.first 1 (omega arith) more)).0)
      where
        not_more : (r : ℕ) → 0 < r → (1 < r → ⊥) → r ≡ 1
        not_more r h n = grind arith

    pub parallel_found : 1 < high → r < high → ArePresentAndParallel x.forms y.forms → IsDistanceOver (loops_between a b) x.forms y.forms (length (loops_between a b).common) (AtLeast r)
    parallel_found room less parallel = record {
      one_group = λ e. absurd (omega (arith, some, e));
      by_earlier = λ h e. ap AtLeast (at_one room e);
      parallel = λ h e p. (found.above, some_at less e, none_before);
      slanted = λ h e p. absurd (p parallel);
    }

    pub parallel_none : r ≡ high → 1 < high → ArePresentAndParallel x.forms y.forms →
        ((t : ℕ) → high ≤ t → steps_may_meet (loops_between a b) x.forms y.forms t ≡ true → (s : ℕ) × (1 ≤ s) × (s < high) × (steps_may_meet (loops_between a b) x.forms y.forms s ≡ true)) →
        IsDistanceOver (loops_between a b) x.forms y.forms (length (loops_between a b).common) Never
    parallel_none last room parallel enough = record {
      one_group = λ e. absurd (omega (arith, some, e));
      by_earlier = λ h e. absurd (not_one (at_one room e));
      parallel = λ h e p t few. never t few;
      slanted = λ h e p. absurd (p parallel);
    }
      where
        not_one : r ≡ 1 → ⊥
        not_one e = omega (arith, e, last, room)

        never : (t : ℕ) → 1 ≤ t → steps_may_meet (loops_between a b) x.forms y.forms t ≡ false
        never t few = by_place (steps_may_meet (loops_between a b) x.forms y.forms t) t r high last (none_before t few) (λ far. by_test _ (λ e. not_found (enough t far e)))
          where
            by_test : (z : Bool) → (z ≡ true → ⊥) → z ≡ false
            by_test true h = absurd (h refl)
            by_test false h = refl

            by_place : (z : Bool) (t r k : ℕ) → r ≡ k → (t < r → z ≡ false) → (k ≤ t → z ≡ false) → z ≡ false
            by_place z t r k e f g = grind arith

            not_found : (s : ℕ) × (1 ≤ s) × (s < high) × (steps_may_meet (loops_between a b) x.forms y.forms s ≡ true) → ⊥
            not_found (s, some, few, may) = no_clash _ may (none_before s some (omega (arith, few, last)))

    pub slanted_found : high ≡ 65 → (ArePresentAndParallel x.forms y.forms → ⊥) → IsDistanceOver (loops_between a b) x.forms y.forms (length (loops_between a b).common) (AtLeast r)
    slanted_found is slanted = record {
      one_group = λ e. absurd (omega (arith, some, e));
      by_earlier = λ h e. ap AtLeast (at_one (omega (arith, is)) e);
      parallel = λ h e p. absurd (slanted p);
      slanted = λ h e p. (found.above, within r high found.within is, (λ few. some_at (under r high few is) e), none_before);
    }
      where
        within : (r k : ℕ) → r ≤ k → k ≡ 65 → r ≤ 64 + 1
        within r k h e = omega arith

        under : (r k : ℕ) → r ≤ 64 → k ≡ 65 → r < k
        under r k h e = omega arith

-- of one group
pub only_group : (a b : Footprint) (x y : PlainAccess) → IsOne a x → IsOne b y → can_meet x y ≡ true → length (loops_between a b).common ≡ 0 →
    IsDistanceOver (loops_between a b) x.forms y.forms (length (loops_between a b).common) (if parts_meet a b 0 then AtLeast 0 else Never)
only_group a b x y is_x is_y can none = record {
  one_group = λ e. ap (λ z. if z then AtLeast 0 else Never) same;
  by_earlier = λ h. absurd (omega (arith, none, h));
  parallel = λ h. absurd (omega (arith, none, h));
  slanted = λ h. absurd (omega (arith, none, h));
}
  where
    by_can : (can m : Bool) → can ≡ true → (((can && m) || false) || false) ≡ m
    by_can true true e = refl
    by_can true false e = refl
    by_can false m e = absurd (no_clash false e refl)

    same : parts_meet a b 0 ≡ may_meet (loops_between a b) Same x.forms y.forms
    same =
        ap (λ xs. stages_meet (loops_between a b) xs (plain_accesses b) 0) is_x ∙ ap (λ ys. stages_meet (loops_between a b) (x ∷ []) ys 0) is_y
        ∙ by_can (can_meet x y) _ can

-- where the tries are enough
pub enough_steps : (loops : Loops) (fs gs : List Affine) (n : ℕ) → IsMost loops fs gs n → (t : ℕ) → n + 1 ≤ t → steps_may_meet loops (Some fs) (Some gs) t ≡ true
    → (s : ℕ) × (1 ≤ s) × (s ≤ n) × (steps_may_meet loops (Some fs) (Some gs) s ≡ true)
enough_steps loops fs gs n most t h may = by_symbols (have_same_symbols fs gs) refl may
  where
    by_symbols : (same : Bool) → have_same_symbols fs gs ≡ same → (not same || is_open loops (Steps t) fs gs) ≡ true → (s : ℕ) × (1 ≤ s) × (s ≤ n) × ((not (have_same_symbols fs gs) || is_open loops (Steps s) fs gs) ≡ true)
    by_symbols true e may = let (s, some, few, free) = most.enough t (omega (arith, h)) may in (s, some, few, ap (λ b. not b || is_open loops (Steps s) fs gs) e ∙ free)
    by_symbols false e may = (1, omega arith, most.some, ap (λ b. not b || is_open loops (Steps 1) fs gs) e)

pub linear_is : (loops : Loops) (fs gs : List Affine) (n : ℕ) → AreParallel fs gs → IsMost loops fs gs n → (PassesBits n → NumbersPass loops fs gs) → IsLinearOf loops (Some fs) (Some gs) (Equal n)
linear_is loops fs gs n parallel most passes = (parallel, enough_steps loops fs gs n most, most.some, λ more. inr (passes more))

pub linear_passes : (l : Loops) (fs gs : List Affine) → AreParallel fs gs → NumbersPass l fs gs → IsLinearOf l (Some fs) (Some gs) TooMany
linear_passes l fs gs parallel passes = (parallel, inr passes)

pub linear_uneven : (l : Loops) (fs gs : List Affine) → AreParallel fs gs → (length l.first ≡ length l.second → ⊥) → IsLinearOf l (Some fs) (Some gs) TooMany
linear_uneven l fs gs parallel uneven = (parallel, inl uneven)

-- where the greatest number of 64 bits is to be tried
pub parallel_unknown : (a b : Footprint) (x y : PlainAccess) (most : ℕ) → most ≡ 18446744073709551615 → IsLinearOf (loops_between a b) x.forms y.forms (Equal most) → IsUnknown (loops_between a b) x.forms y.forms
parallel_unknown a b x y most e h = h.3 (omega (arith, e))

pub one_passes_not : PassesBits 1 → ⊥
one_passes_not more = omega (arith, more)

-- the two ends of a search over numbers of groups
module _ (a b : Footprint) (x y : PlainAccess) (is_x : IsOne a x) (is_y : IsOne b y) (can : can_meet x y ≡ true) (some : 1 ≤ length (loops_between a b).common) where
  pub parallel_some : (most high r : ℕ) → IsLinearOf (loops_between a b) x.forms y.forms (Equal most) → high ≡ most + 1 → IsFirst a b 0 high r → r < high → IsDistanceOf a b x y (AtLeast r)
  parallel_some most high r h e found less = parallel_found a b x y is_x is_y can some high r found (room h.2) less h.0
    where
      room : 1 ≤ most → 1 < high
      room k = omega (arith, e, k)

  pub parallel_never : (most high r : ℕ) → IsLinearOf (loops_between a b) x.forms y.forms (Equal most) → high ≡ most + 1 → IsFirst a b 0 high r → high ≤ r → IsDistanceOf a b x y Never
  parallel_never most high r h e found end =
      parallel_none a b x y is_x is_y can some high r found (last r high found.within end) (room h.2) h.0 (λ t far may. within high (h.1 t (past t far) may) e)
    where
      room : 1 ≤ most → 1 < high
      room k = omega (arith, e, k)

      last : (r k : ℕ) → r ≤ k → k ≤ r → r ≡ k
      last r k h n = omega arith

      past : (t : ℕ) → high ≤ t → most + 1 ≤ t
      past t k = omega (arith, e, k)

      within : (high : ℕ) → (s : ℕ) × (1 ≤ s) × (s ≤ most) × (steps_may_meet (loops_between a b) x.forms y.forms s ≡ true) → high ≡ most + 1
          → (s : ℕ) × (1 ≤ s) × (s < high) × (steps_may_meet (loops_between a b) x.forms y.forms s ≡ true)
      within high (s, some, few, may) e = (s, some, omega (arith, few, e), may)

  pub slanted_some : (r : ℕ) → IsLinearOf (loops_between a b) x.forms y.forms Other → IsFirst a b 0 65 r → IsDistanceOf a b x y (AtLeast r)
  slanted_some r h found = slanted_found a b x y is_x is_y can some 65 r found refl h

length_of_none : (xs : List LoopRange) (n : ℕ) → n ≡ 0 → length (take n xs) ≡ 0
length_of_none xs n e = ap (λ k. length (take k xs)) e

length_of_some : (xs : List LoopRange) (n : ℕ) → n ≤ length xs → (n ≡ 0 → ⊥) → 1 ≤ length (take n xs)
length_of_some xs zero h not_so = absurd (not_so refl)
length_of_some [] (suc n) h not_so = absurd (omega (arith, h))
length_of_some (x ∷ xs) (suc n) h not_so = omega arith

pub some_common : (a b : Footprint) → IsFootprint a → (a.common ≡ 0 → ⊥) → 1 ≤ length (loops_between a b).common
some_common a b h not_so = length_of_some a.loops.items a.common h.common not_so

pub group_is : (a b : Footprint) (x y : PlainAccess) (d : Dist) → IsOne a x → IsOne b y → can_meet x y ≡ true → a.common ≡ 0 → d ≡ (if parts_meet a b 0 then AtLeast 0 else Never) → IsDistanceOf a b x y d
group_is a b x y d is_x is_y can none e =
    let P : Dist → Type 0 = IsDistanceOf a b x y in
    subst P (sym e) (only_group a b x y is_x is_y can (length_of_none a.loops.items a.common none))

-- of two accesses of one body
pub none_left : (loops : List LoopRange) → length loops ≡ 0 → loops ≡ []
none_left [] e = refl
none_left (l ∷ loops) e = absurd (omega (arith, e))

pub without_own : (common own : List LoopRange) (forms : Option (Vec Affine Global)) → own ≡ [] → IfSome forms (λ v. All (λ f. HasCounters common own f.coefs) v.items) → IfSome forms (λ v. All (λ f. HasCounters common [] f.coefs) v.items)
without_own common own forms e h = subst (λ (xs : List LoopRange). IfSome forms (λ v. All (λ f. HasCounters common xs f.coefs) v.items)) e h

pub in_one_body : (common first second : List LoopRange) (x y : Option (List Affine)) (d : Dist) → first ≡ [] → second ≡ [] → IsDistanceOver (all_common common) x y (length common) d → IsDistanceOver (loops_of common first second) x y (length common) d
in_one_body common first second x y d e f h =
    subst (λ (xs : List LoopRange). IsDistanceOver (loops_of common xs second) x y (length common) d) (sym e)
    (subst (λ (xs : List LoopRange). IsDistanceOver (loops_of common [] xs) x y (length common) d) (sym f) h)
