-- Parts with accesses that touch one element meet.
use Rattle.std.proofs.Common.{◌≡◌, inl, inr, ℕ, zero, suc, ◌-◌, ◌<◌, ◌≤◌, Bool, true, false, ◌&&◌, not, ℤ, List, [], ◌∷◌, ◌++◌, length, refl, ap, ◌∙◌, subst, arith}
use Rattle.std.specs.Prelude.{◌⊎◌, ◌||◌, ◌==◌, if◌then◌else◌}
use Rattle.std.specs.List.{list_any}
use Rattle.sp_deps.specs.declared.access.LoopRange.{LoopRange}
use Rattle.sp_deps.specs.declared.class.Class.TheVariants.{Same, Steps, Earlier}
use Rattle.sp_deps.specs.Access.{PlainAccess, can_meet}
use Rattle.sp_deps.specs.Classes.{Loops, may_meet}
use Rattle.sp_deps.specs.Distances.{earlier_may_meet}
use Rattle.sp_deps.specs.Groups.{AreGroupsOn, AreTouching}
use Rattle.sp_deps.specs.Stages.{meets_up_to, meet_later, meet_within, stages_meet}
use Rattle.sp_deps.proofs.Least.{same_group, touching_same, touching_moves}
use Rattle.sp_deps.proofs.Parallel.{among_earlier, among_steps}

either : (a b : Bool) → (a ≡ true) ⊎ (b ≡ true) → (a || b) ≡ true
either true b h = refl
either false b (inl e) = absurd (no e)
  where
    no : false ≡ true → ⊥
    no e = cc
either false b (inr e) = e

both : (a b : Bool) → a ≡ true → b ≡ true → (a && b) ≡ true
both true b e f = f
both false b e f = e

some_test : (n : ℕ) → 0 < n → not (n == 0) ≡ true
some_test n h = grind arith

nonempty : (ls : List LoopRange) (xs ys : List ℤ) (k : ℕ) → AreGroupsOn ls xs ys k → 1 ≤ k → 0 < length ls
nonempty [] [] [] k h some = absurd (omega (arith, h))
nonempty [] [] (y ∷ ys) k h some = absurd h
nonempty [] (x ∷ xs) ys k h some = absurd h
nonempty (l ∷ ls) xs ys k h some = omega arith

module _ (loops : Loops) (a b : PlainAccess) where
  later : (within k : ℕ) → AreTouching loops a b k → 1 ≤ k → k ≤ within → meet_later loops a b within ≡ true
  later within zero t some few = absurd (omega arith)
  later within (suc k) t some few =
      let counters = nonempty loops.common t.xs t.ys (suc k) t.groups some in
      both _ _ (some_test (length loops.common) counters) (either _ _ (by_class (touching_moves loops a b (suc k) t counters)))
    where
      by_class : ((may_meet loops (Steps (suc k)) a.forms b.forms ≡ true) ⊎ ((i : ℕ) × (suc i < length loops.common) × (may_meet loops (Earlier i) a.forms b.forms ≡ true))) →
          (earlier_may_meet loops a.forms b.forms (length loops.common - 1) ≡ true) ⊎ (meets_up_to loops a b within ≡ true)
      by_class (inl met) = inr (among_steps loops a b within k (omega arith) met)
      by_class (inr (i, less, met)) = inl (among_earlier loops a.forms b.forms (length loops.common - 1) i (omega arith) met)

  pub pair_meets : (within k : ℕ) → AreTouching loops a b k → k ≤ within → (0 < within → 1 ≤ k) → meet_within loops a b within ≡ true
  pair_meets zero k t few some =
      let none : k ≡ 0 = omega arith in
      let P : ℕ → Type 0 = AreGroupsOn loops.common t.xs t.ys in
      both (can_meet a b) _ t.can (touching_same loops a b k t (same_group loops.common t.xs t.ys (subst P none t.groups)))
  pair_meets (suc within) k t few some =
      both (can_meet a b) _ t.can (ap (λ z. if z then may_meet loops Same a.forms b.forms else meet_later loops a b (suc within)) (not_none within) ∙ later (suc within) k t (some (omega arith)) few)
    where
      not_none : (n : ℕ) → (suc n == 0) ≡ false
      not_none n = grind arith

any_of : {A : Type 0} (p : A → Bool) (before : List A) (x : A) (after : List A) → p x ≡ true → list_any p (before ++ x ∷ after) ≡ true
any_of p [] x after h = either (p x) (list_any p after) (inl h)
any_of p (y ∷ before) x after h = either (p y) (list_any p (before ++ x ∷ after)) (inr (any_of p before x after h))

pub parts_meet : (loops : Loops) (a b : PlainAccess) (p q r s : List PlainAccess) (within k : ℕ) → AreTouching loops a b k → k ≤ within → (0 < within → 1 ≤ k) →
    stages_meet loops (p ++ a ∷ q) (r ++ b ∷ s) within ≡ true
parts_meet loops a b p q r s within k t few some =
    any_of (λ x. list_any (λ y. meet_within loops x y within) (r ++ b ∷ s)) p a q (any_of (λ y. meet_within loops a y within) r b s (pair_meets loops a b within k t few some))
