-- The last word of a slice is that at which its counters have their last values.
use Rattle.std.proofs.Common.{◌≡◌, ℕ, zero, suc, ◌+◌, ◌*◌, ◌<◌, ◌≤◌, Bool, true, false, ◌&&◌, not, pos, ◌+ℤ◌, List, ◌∷◌, refl, sym, ap, ap₂, subst, ◌∙◌, arith, if◌then◌else◌}
use Rattle.std.specs.Prelude.{int_lt}
use Rattle.sp_netlist.specs.Signals.{Signals}
use Rattle.sp_counters.specs.declared.part.Count.{Count}
use Rattle.sp_counters.specs.declared.part.Counter.{Counter}
use Rattle.sp_counters.specs.Counting.{number, are_last, advance_of, AllCount, none, counted}
use Rattle.sp_slices.specs.declared.part.Axis.{Axis}
use Rattle.sp_slices.specs.declared.part.Move.{Move}
use Rattle.sp_slices.specs.Slices.{CountMoves, no_move, one_move, FollowAxes, no_axis, one_axis, all_ended}

-- bounds that counters and dimensions took are the same
abbrev pub Same : Signals → List Counter → List Axis → ℕ → Type 0
Same s (n ∷ counters) (a ∷ axes) t = (number s n.until t ≡ number s a.until t) × Same s counters axes t
Same s _ _ t = Unit {0}

pub if_true : {A : Type 0} (b : Bool) (x y : A) → b ≡ true → (if b then x else y) ≡ x
if_true b x y e = ap (λ b. if b then x else y) e

pub if_false : {A : Type 0} (b : Bool) (x y : A) → b ≡ false → (if b then x else y) ≡ y
if_false b x y e = ap (λ b. if b then x else y) e

module _ (s : Signals) (start step : ℕ → Bool) where
  pub same_first : (t : ℕ) → start t ≡ true → (counts : List Count) (counters : List Counter) (axes : List Axis) → AllCount s start step counts counters → FollowAxes s start counts counters axes → Same s counters axes (suc t)
  same_first t e _ _ _ none no_axis = tt
  same_first t e _ _ _ (counted h hs) (one_axis k ks) = (h.until t ∙ if_true _ _ _ e ∙ sym (k.until t ∙ if_true _ _ _ e), same_first t e _ _ _ hs ks)

  pub same_on : (t : ℕ) → start t ≡ false → (counts : List Count) (counters : List Counter) (axes : List Axis) → AllCount s start step counts counters → FollowAxes s start counts counters axes → Same s counters axes t → Same s counters axes (suc t)
  same_on t e _ _ _ none no_axis w = tt
  same_on t e _ _ _ (counted h hs) (one_axis k ks) w = (h.until t ∙ if_false _ _ _ e ∙ w.0 ∙ sym (k.until t ∙ if_false _ _ _ e), same_on t e _ _ _ hs ks w.1)

  pub same_all : (begun : ℕ) → start begun ≡ true → (counts : List Count) (counters : List Counter) (axes : List Axis) → AllCount s start step counts counters → FollowAxes s start counts counters axes
      → (cycles : ℕ) → ((t : ℕ) → begun < t → t ≤ begun + cycles → start t ≡ false) → Same s counters axes (begun + 1 + cycles)
  same_all begun e counts counters axes h k zero quiet = subst (Same s counters axes) (omega arith) (same_first begun e counts counters axes h k)
  same_all begun e counts counters axes h k (suc n) quiet =
      let next : suc (begun + 1 + n) ≡ begun + 1 + suc n = omega arith in
      subst (Same s counters axes) next (same_on (begun + 1 + n) (quiet (begun + 1 + n) (omega arith) (omega arith)) counts counters axes h k (same_all begun e counts counters axes h k n (λ t l m. quiet t l (omega (arith, m)))))

-- each counter goes on by one
by_one : (c : Count) → c.by ≡ 1 → c.par ≡ 1 → advance_of c ≡ 1
by_one c e f = ap₂ (λ a b. a * b) e f

pub ended_is : (s : Signals) (start : ℕ → Bool) (t : ℕ) (moves : List Move) (counts : List Count) (counters : List Counter) (axes : List Axis) → CountMoves s moves counts → FollowAxes s start counts counters axes → Same s counters axes t
    → all_ended s counters axes t ≡ are_last s counts counters t
ended_is s start t _ _ _ _ no_move no_axis w = refl
ended_is s start t _ _ _ _ (one_move {c = c} h hs) (one_axis {n = n} k ks) w =
    ap₂ (λ a b. a && b) (ap₂ (λ m u. not (int_lt (number s n.value t +ℤ pos m) u)) (sym (by_one c h.by h.par)) (sym w.0)) (ended_is s start t _ _ _ _ hs ks w.1)
