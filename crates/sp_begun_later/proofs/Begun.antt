-- A run of a core from a cycle on.
use Rattle.std.proofs.Common.{◌≡◌, ℕ, zero, suc, ◌≤◌, Bool, true, false, List, [], ◌∷◌, Contains, Option, if◌then◌else◌, refl, sym, ap, subst, ◌∙◌, arith, append-nil}
use Rattle.sp_words.specs.Memory.{Contents}
use Rattle.sp_core.specs.Events.{Moment}
use Rattle.sp_core.specs.PlainCore.{PlainCore}
use Rattle.sp_plan.specs.PlainPlan.{PlainPlan}
use Rattle.sp_time.specs.Events.{Event, InTime, after}
use Rattle.sp_time.specs.Places.{Place, is_place}
use Rattle.sp_machine.specs.Found.{event_of, events_of, does, Sees}
use Rattle.sp_machine.specs.InOrder.{is_done, does_change}
use Rattle.sp_machine.specs.Stamps.{Stamped, moved, later}
use Rattle.sp_machine.specs.Timeline.{core_timed}
use Rattle.sp_machine.specs.Transfers.{Delays}
use Rattle.sp_contents.specs.Steady.{IsAllowed}
use Rattle.sp_core_ports.specs.CopiesLaws.{HasCopy}
use Rattle.sp_tree_events.specs.ToldLaws.{IsOfItem}
use Rattle.sp_memory_words.specs.Moments.{HappensWell}
use Rattle.sp_begun_later.specs.Later.{events_from, RunsBeginLater}
use Rattle.sp_begun_later.proofs.Moved.{all_moved, each_mapped, after_moved, time_moved}

module _ (core : PlainCore) (n : ℕ) where
  one_event : (b : Bool) (x : Stamped) (xs : List Stamped) (ys : List (Event Place Moment)) → events_of core (later n xs) ≡ all_moved n ys → (if b then event_of core (moved n x) ∷ events_of core (later n xs) else events_of core (later n xs)) ≡ all_moved n (if b then event_of core x ∷ ys else ys)
  one_event true x xs ys h = ap (λ zs. event_of core (moved n x) ∷ zs) h
  one_event false x xs ys h = h

  events_moved : (xs : List Stamped) → events_of core (later n xs) ≡ all_moved n (events_of core xs)
  events_moved [] = refl
  events_moved (x ∷ xs) = one_event (is_done core x.moment) x xs (events_of core xs) (events_moved xs)

  pub well_later : (plan : PlainPlan) (xs : List Stamped) (first : Place → Option Contents) → HappensWell core plan xs first → HappensWell core plan (later n xs) first
  well_later plan xs first h = record {
    in_time = subst (λ es. InTime is_place (does core) (Sees core) does_change es first) (sym (events_moved xs)) (time_moved is_place (does core) (Sees core) does_change n (events_of core xs) first h.in_time);
    allowed = each_mapped (moved n) (λ x. IsAllowed core x.moment) xs h.allowed;
    copied = each_mapped (moved n) (λ x. HasCopy core plan x.copy x.moment) xs h.copied;
    of_items = each_mapped (moved n) (λ x. IsOfItem core x.moment) xs h.of_items;
  }

  pub ends_later : (xs : List Stamped) (first : Place → Option Contents) (p : Place) → after is_place (does core) (events_of core (later n xs)) first p ≡ after is_place (does core) (events_of core xs) first p
  ends_later xs first p =
      ap (λ es. after is_place (does core) es first p) (events_moved xs) ∙ ap (λ (f : Place → Option Contents). f p) (after_moved is_place (does core) (Sees core) does_change n (events_of core xs) first)

not_earlier : (n : ℕ) (xs : List Stamped) (x : Stamped) → Contains (later n xs) x → n ≤ x.cycle
not_earlier n [] x (k, l, e) = absurd (omega (arith, l))
not_earlier n (y ∷ xs) x (zero, l, e) = (let c = ap (λ (z : Stamped). z.cycle) e in omega (arith, c))
not_earlier n (y ∷ xs) x (suc k, l, e) = not_earlier n xs x (k, omega (arith, l), e)

pub begun_later : (core : PlainCore) (plan : PlainPlan) (delays : Delays) → RunsBeginLater core plan delays
begun_later core plan delays n h =
    let events = (core_timed core plan delays h).events in
    let are : events_from core plan delays n h ≡ later n events = append-nil (later n events) in
    record {
      moved = are;
      not_before = λ t c x there. not_earlier n events (record { cycle = t; copy = c; moment = x }) (subst (λ xs. Contains xs (record { cycle = t; copy = c; moment = x })) are there);
      well = λ first w. subst (λ xs. HappensWell core plan xs first) (sym are) (well_later core n plan events first w);
      ends = λ first p. ap (λ xs. after is_place (does core) (events_of core xs) first p) are ∙ ends_later core n events first p;
    }
