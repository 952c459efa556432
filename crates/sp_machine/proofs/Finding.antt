-- Moments that are in order are found in time.
use Rattle.std.proofs.Common.{◌≡◌, Bool, true, false, cond, List, [], ◌∷◌, refl, ap}
use Rattle.std.proofs.lemmas.Bool.{and_from, eq-eqb, true≢false}
use Rattle.std.specs.Prelude.{Option}
use Rattle.sp_words.specs.Memory.{Contents}
use Rattle.sp_core.specs.Declarations.{kind_of, dims}
use Rattle.sp_core.specs.Events.{Act, reads, writes, puts, takes, resets, turns, Moment, touches, slices, renews, keeps}
use Rattle.sp_core.specs.Meeting.{changes, element}
use Rattle.sp_core.specs.PlainCore.{PlainCore}
use Rattle.sp_time.specs.Events.{Waits}
use Rattle.sp_time.specs.Lists.{Each, Pairs}
use Rattle.sp_time.specs.Places.{is_place}
use Rattle.sp_time.proofs.Contents.{in_time, place_test}
use Rattle.sp_machine.specs.Found.{element_of, event_of, events_of, act_does, does, Sees, AreFound}
use Rattle.sp_machine.specs.InOrder.{is_done, memory_of, does_change, share_place, Clash, AreInOrder}
use Rattle.sp_machine.specs.Stamps.{Stamped}

module _ (core : PlainCore) where
  -- one place is shared
  one_shared : (m n : Moment) → memory_of m ≡ memory_of n → element_of core m ≡ element_of core n → share_place core m n ≡ true
  one_shared (touches e) (touches f) a b = and_from _ _ (eq-eqb _ _ a) (eq-eqb (element (kind_of core e.mem) (dims core e.mem) e.indices) (element (kind_of core f.mem) (dims core f.mem) f.indices) b)
  one_shared (touches e) (slices x) a b = eq-eqb _ _ a
  one_shared (touches e) (renews m) a b = eq-eqb _ _ a
  one_shared (touches e) (keeps m w) a b = eq-eqb _ _ a
  one_shared (slices x) n a b = eq-eqb _ _ a
  one_shared (renews m) n a b = eq-eqb _ _ a
  one_shared (keeps m w) n a b = eq-eqb _ _ a

  one_waits : (s t : Stamped) → is_done core s.moment ≡ true → is_done core t.moment ≡ true → AreInOrder core s t → Waits does_change (event_of core s) (event_of core t)
  one_waits s t a b o = record {
    for_change = λ p c. o.for_change (clash p) c;
    for_look = λ p c. o.for_look (clash p) c;
  }
    where
      clash : (event_of core s).place ≡ (event_of core t).place → Clash core s t
      clash p = record { first = a; second = b; copy = ap (λ x. x.copy) p; place = one_shared s.moment t.moment (ap (λ x. x.mem) p) (ap (λ x. x.element) p) }

  each_waits : (s : Stamped) → is_done core s.moment ≡ true → (run : List Stamped) → Each (AreInOrder core s) run → Each (Waits does_change (event_of core s)) (events_of core run)
  each_waits s a [] h = tt
  each_waits s a (t ∷ run) h = go (is_done core t.moment) refl (each_waits s a run h.1)
    where
      go : (b : Bool) → is_done core t.moment ≡ b → Each (Waits does_change (event_of core s)) (events_of core run) → Each (Waits does_change (event_of core s)) (cond b (event_of core t ∷ events_of core run) (events_of core run))
      go true e k = (one_waits s t a e h.0, k)
      go false e k = k

  pairs_wait : (run : List Stamped) → Pairs (AreInOrder core) run → Pairs (Waits does_change) (events_of core run)
  pairs_wait [] h = tt
  pairs_wait (s ∷ run) h = go (is_done core s.moment) refl (pairs_wait run h.1)
    where
      go : (b : Bool) → is_done core s.moment ≡ b → Pairs (Waits does_change) (events_of core run) → Pairs (Waits does_change) (cond b (event_of core s ∷ events_of core run) (events_of core run))
      go true e k = (each_waits s e run h.0, k)
      go false e k = k

-- a look changes nothing
still_moment : (core : PlainCore) (m : Moment) (c : Option Contents) → does_change m ≡ false → does core m c ≡ c
still_moment core (touches e) c h = still_act e.act h
  where
    still_act : (a : Act) → changes a ≡ false → act_does core e.mem e.indices a c ≡ c
    still_act (reads w) h = refl
    still_act (writes w) h = absurd (true≢false h)
    still_act (puts w) h = absurd (true≢false h)
    still_act (takes w) h = absurd (true≢false h)
    still_act resets h = absurd (true≢false h)
    still_act turns h = absurd (true≢false h)
still_moment core (slices x) c h = refl
still_moment core (renews m) c h = absurd (true≢false h)
still_moment core (keeps m w) c h = absurd (true≢false h)

pub are_found : (core : PlainCore) → AreFound core
are_found core run first order follows = in_time is_place (does core) does_change place_test (still_moment core) (Sees core) (events_of core run) first (pairs_wait core run order) follows
