-- The worked deeds.
use Rattle.std.proofs.Common.{◌≡◌, ℕ, zero, suc, refl, ap, ◌∙◌, arith}
use Rattle.sp_core.specs.Events.{Moment, touches, slices, renews, keeps}
use Rattle.sp_machine.specs.Stamps.{Stamped}
use Rattle.sp_tree_events.specs.OwnersOwning.{Deed, renewed, kept, moment_of, deed_mem, Shows}
use Rattle.sp_tree_events.specs.OwnersExample.{inside, whole, WorkedDeeds}

mem_of : Moment → ℕ
mem_of (touches e) = 0
mem_of (slices x) = 0
mem_of (renews m) = m
mem_of (keeps m w) = m

deed_is : (d : Deed) → mem_of (moment_of d) ≡ deed_mem d
unfolding mem_of
deed_is (renewed m) = refl
deed_is (kept m w) = refl

two_four : (n : ℕ) → n ≡ 4 → 2 ≡ n → ⊥
two_four n a b = absurd (omega (arith, a, b))

stamp_at : (cycle copy : ℕ) → Moment → Stamped
stamp_at t c x = record { cycle = t; copy = c; moment = x }

apart : (t c u k : ℕ) (d : Deed) → deed_mem d ≡ 4 → stamp_at u k (renews 2) ≡ stamp_at t c (moment_of d) → ⊥
unfolding mem_of stamp_at
apart t c u k d at e = two_four (deed_mem d) at (ap (λ (x : Stamped). mem_of x.moment) e ∙ deed_is d)

in_inside : (t c : ℕ) (d : Deed) → deed_mem d ≡ 4 → Shows whole t c d → Shows inside t c d
unfolding stamp_at
in_inside t c d at (zero, l, q) = absurd (apart t c 3 0 d at q)
in_inside t c d at (suc zero, l, q) = absurd (apart t c 7 1 d at q)
in_inside t c d at (suc (suc n), l, q) = (n, omega (arith, l), q)

in_whole : (t c : ℕ) (d : Deed) → Shows inside t c d → Shows whole t c d
in_whole t c d (n, l, q) = (suc (suc n), omega (arith, l), q)

pub worked : WorkedDeeds
worked = record {
  second = (1, omega arith, refl);
  state = (2, omega arith, refl);
  same = λ t c d at. (in_inside t c d at, in_whole t c d);
}
