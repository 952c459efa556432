-- The worked whole.
use Rattle.std.proofs.Common.{◌≡◌, ℕ, zero, suc, [], refl, sym, ap, arith}
use Rattle.std.specs.List.{Contains}
use Rattle.sp_core.specs.Events.{reads, Event, Moment, touches, slices, renews, keeps}
use Rattle.sp_machine.specs.Stamps.{Stamped}
use Rattle.sp_node_runs.proofs.ControlBeatRuns.{there}
use Rattle.sp_tree_events.specs.PartsExample.{event_at, part, whole, WorkedAgreement}

number_of : Moment → ℕ
number_of (touches e) = e.number
number_of (slices x) = 0
number_of (renews m) = 0
number_of (keeps m w) = 0

not_both : (n : ℕ) → n ≡ 3 → n ≡ 4 → ⊥
not_both n a b = absurd (omega (arith, a, b))

-- the part has no event at number 3
none_three : (t c : ℕ) (e : Event) → e.number ≡ 3 → Contains part (record { cycle = t; copy = c; moment = touches e }) → ⊥
unfolding number_of
none_three t c e at (zero, l, q) = not_both e.number at (sym (ap (λ (x : Stamped). number_of x.moment) q))
none_three t c e at (suc k, l, q) = absurd (omega (arith, l))

-- and what the whole has at number 4 is in the part
in_part : (t c : ℕ) (e : Event) → e.number ≡ 4 → Contains whole (record { cycle = t; copy = c; moment = touches e }) → Contains part (record { cycle = t; copy = c; moment = touches e })
unfolding number_of
in_part t c e at (zero, l, q) = absurd (not_both e.number (sym (ap (λ (x : Stamped). number_of x.moment) q)) at)
in_part t c e at (suc k, l, q) = (k, omega (arith, l), q)

first_event : Event
first_event = record { number = 3; standing = record { path = []; counters = [] }; mem = 1; indices = []; act = reads 5 }

pub worked : WorkedAgreement
unfolding first_event
worked = record {
  same = record {
    into = λ t e h. (e, record { copy = h.copy; there = in_part t h.copy e h.numbered h.there; numbered = h.numbered }, record { mem = refl; indices = refl; act = refl }, refl);
    back = λ t e h. (e, record { copy = h.copy; there = there (event_at 2 3 (reads 5)) _ part h.there; numbered = h.numbered }, record { mem = refl; indices = refl; act = refl }, refl);
  };
  other = λ agree. (let x = agree.into 2 first_event (record { copy = 0; there = (zero, omega arith, refl); numbered = refl }) in none_three 2 x.1.copy x.0 x.1.numbered x.1.there);
}
