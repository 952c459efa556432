-- All events of a run stand in the meets.
use Rattle.std.proofs.Common.{◌≡◌, ℕ, ◌≤◌, Bool, true, List, [], ◌∷◌, refl}
use Rattle.std.proofs.lemmas.Bool.{and_from}
use Rattle.std.proofs.lemmas.List.Elements.{All-head, All-tail}
use Rattle.std.specs.List.{All, list_all}
use Rattle.sp_core.specs.declared.access.Meet.{Meet}
use Rattle.sp_core.specs.Events.{At, Event, Standing, Moment, touches, slices, renews, keeps, events_of}
use Rattle.sp_core.specs.History.{History}
use Rattle.sp_core.specs.Invariant.{IsCore}
use Rattle.sp_core.specs.Meeting.{in_loop, together, is_met, are_met}
use Rattle.sp_core.specs.PlainCore.{PlainCore}
use Rattle.sp_core.specs.Replay.{after_moment}
use Rattle.sp_core.specs.Scope.{in_lanes}
use Rattle.sp_core.specs.Store.{Store}
use Rattle.sp_along.specs.MetApart.{AreApart}
use Rattle.sp_along.specs.MetGroups.{GroupsGoOn}
use Rattle.sp_along.specs.MetOrder.{EachTwo}
use Rattle.sp_along.specs.MetTouching.{MetAccessesStand}
use Rattle.sp_along.specs.MetTraces.{loops_in, IsTraced, Stands}
use Rattle.sp_meets.specs.Meets.{IsMeetsOf}
use Rattle.sp_along.specs.Along.{Named, HasSpot}
use Rattle.sp_along.specs.AlongSymbols.{EachIn, AreKept}
use Rattle.sp_along.specs.AlongTextOrder.{EachPair, IsOneRound}
use Rattle.sp_touched.specs.Touched.{Touches}
use Rattle.sp_meets_hold.proofs.HoldJudged.{is_met_so}
use Rattle.sp_meets_hold.proofs.HoldPairs.{forms, IsKnown, known}

module _ (core : PlainCore) (h : History) (begun : List At → Store) (is_core : IsCore core) (law : MetAccessesStand) (go_on : GroupsGoOn) (meets : List Meet) (right : IsMeetsOf core (forms core h begun) meets) where
  abbrev Kept : Store → Moment → Type 0
  Kept s m = Stands (AreKept core h begun s) m

  abbrev Traced : Standing → Type 0
  Traced s = IsTraced (loops_in in_lanes core.root h) s.path s.counters

  abbrev Later : Standing → Standing → Type 0
  Later s t = (node g i : ℕ) (one : Bool) → together core s.path t.path ≡ in_loop node g i one → AreApart (loops_in in_lanes core.root h) s.path t.path s.counters t.counters node g i one

  abbrev Up : ℕ → Standing → ℕ → Standing → Type 0
  Up n s m t = IsOneRound (together core s.path t.path) → n ≤ m

  -- what is known of some moments of a run, from a store on
  record AreKnown (s : Store) (ms : List Moment) : Type 0 where
    touch : EachIn core (Touches core) s ms
    keep : EachIn core Kept s ms
    spot : All (Named (HasSpot core h)) ms
    trace : All (Stands Traced) ms

  rest_known : (s : Store) (m : Moment) (ms : List Moment) → AreKnown s (m ∷ ms) → AreKnown (after_moment core m s) ms
  rest_known s m ms k = record { touch = k.touch.1; keep = k.keep.1; spot = All-tail (Named (HasSpot core h)) m ms k.spot; trace = All-tail (Stands Traced) m ms k.trace }

  first_known : (s : Store) (e : Event) (ms : List Moment) → AreKnown s (touches e ∷ ms) → IsKnown core h begun s e
  first_known s e ms k = known core h begun is_core s e k.touch.0 k.keep.0 (All-head (Named (HasSpot core h)) (touches e) ms k.spot) (All-head (Stands Traced) (touches e) ms k.trace)

  -- those after an event
  after_it : (s u : Store) (e : Event) (ms : List Moment) → IsKnown core h begun s e → AreKnown u ms → All (Stands (Later e.standing)) ms → All (Named (Up e.number e.standing)) ms → list_all (is_met core meets e) (events_of ms) ≡ true
  after_it s u e [] a k l p = refl
  after_it s u e (touches f ∷ ms) a k l p =
      and_from (is_met core meets e f) (list_all (is_met core meets e) (events_of ms))
      (is_met_so core h begun is_core law go_on meets right s u e f a (first_known u f ms k) (λ node g i one t. (All-head (Stands (Later e.standing)) (touches f) ms l node g i one t).in_order) (All-head (Named (Up e.number e.standing)) (touches f) ms p))
      (after_it s (after_moment core (touches f) u) e ms a (rest_known u (touches f) ms k) (All-tail (Stands (Later e.standing)) (touches f) ms l) (All-tail (Named (Up e.number e.standing)) (touches f) ms p))
  after_it s u e (slices x ∷ ms) a k l p = after_it s (after_moment core (slices x) u) e ms a (rest_known u (slices x) ms k) (All-tail (Stands (Later e.standing)) (slices x) ms l) (All-tail (Named (Up e.number e.standing)) (slices x) ms p)
  after_it s u e (renews x ∷ ms) a k l p = after_it s (after_moment core (renews x) u) e ms a (rest_known u (renews x) ms k) (All-tail (Stands (Later e.standing)) (renews x) ms l) (All-tail (Named (Up e.number e.standing)) (renews x) ms p)
  after_it s u e (keeps x w ∷ ms) a k l p = after_it s (after_moment core (keeps x w) u) e ms a (rest_known u (keeps x w) ms k) (All-tail (Stands (Later e.standing)) (keeps x w) ms l) (All-tail (Named (Up e.number e.standing)) (keeps x w) ms p)

  all_met : (s : Store) (ms : List Moment) → AreKnown s ms → EachTwo Later ms → EachPair Up ms → are_met core meets (events_of ms) ≡ true
  all_met s [] k l p = refl
  all_met s (touches e ∷ ms) k l p =
      and_from (list_all (is_met core meets e) (events_of ms)) (are_met core meets (events_of ms))
      (after_it s (after_moment core (touches e) s) e ms (first_known s e ms k) (rest_known s (touches e) ms k) l.0 p.0) (all_met (after_moment core (touches e) s) ms (rest_known s (touches e) ms k) l.1 p.1)
  all_met s (slices x ∷ ms) k l p = all_met (after_moment core (slices x) s) ms (rest_known s (slices x) ms k) l.1 p.1
  all_met s (renews x ∷ ms) k l p = all_met (after_moment core (renews x) s) ms (rest_known s (renews x) ms k) l.1 p.1
  all_met s (keeps x w ∷ ms) k l p = all_met (after_moment core (keeps x w) s) ms (rest_known s (keeps x w) ms k) l.1 p.1

  pub whole_met : (s : Store) (ms : List Moment) → EachIn core (Touches core) s ms → EachIn core Kept s ms → All (Named (HasSpot core h)) ms → All (Stands Traced) ms → EachTwo Later ms → EachPair Up ms → are_met core meets (events_of ms) ≡ true
  whole_met s ms touch keep spot trace l p = all_met s ms (record { touch = touch; keep = keep; spot = spot; trace = trace }) l p
