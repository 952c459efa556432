-- The worked owners.
use Rattle.std.proofs.Common.{◌≡◌, ℕ, zero, suc, ◌==◌, Bool, true, false, if◌then◌else◌, inl, nat_eq, refl, sym, ap, subst, arith}
use Rattle.std.proofs.lemmas.Bool.{eqb-true, true≢false}
use Rattle.sp_gates.specs.Tested.{is_on}
use Rattle.sp_core.specs.Events.{Moment, renews, keeps}
use Rattle.sp_machine.specs.Stamps.{Stamped}
use Rattle.sp_tree_events.specs.OwnersOwning.{Deed, renewed, kept, moment_of, Shows}
use Rattle.sp_tree_events.specs.ActsExample.{waves, in_three, WorkedOwners}

-- the one deed is in cycle 3 at copy 0, where net 0 is 1
at_three : (x : Moment) (t c : ℕ) (d : Deed) → Shows (in_three x) t c d → (t ≡ 3) × (c ≡ 0)
at_three x t c d (zero, l, e) = (sym (ap (λ (y : Stamped). y.cycle) e), sym (ap (λ (y : Stamped). y.copy) e))
at_three x t c d (suc i, l, e) = absurd (omega (arith, l))

on_in : (t : ℕ) → is_on waves 0 t ≡ true → t ≡ 3
on_in t h = by (nat_eq t 3) refl h
  where
    by : (b : Bool) → nat_eq t 3 ≡ b → ((if b then 1 else 0) == 1) ≡ true → t ≡ 3
    by true q k = eqb-true t 3 q
    by false q k = absurd (true≢false (sym k))

on_at : (t : ℕ) → t ≡ 3 → is_on waves 0 t ≡ true
on_at t e = subst (λ u. is_on waves 0 u ≡ true) (sym e) refl

shown : (d : Deed) (t : ℕ) → t ≡ 3 → Shows (in_three (moment_of d)) t 0 d
shown d t e = subst (λ u. Shows (in_three (moment_of d)) u 0 d) (sym e) (0, omega arith, refl)

-- and its word is 5
is_five : (t c w : ℕ) → Shows (in_three (keeps 4 5)) t c (kept 4 w) → 5 ≡ w
is_five t c w (zero, l, e) = same_word (ap (λ (y : Stamped). y.moment) e)
  where
    same_word : keeps 4 5 ≡ keeps 4 w → 5 ≡ w
    same_word q = cc (q)
is_five t c w (suc i, l, e) = absurd (omega (arith, l))

pub worked : WorkedOwners
worked = record {
  loop = λ last. record { made = λ t c l h. (let e = at_three (renews 2) t c (renewed 2) h in (on_at t e.0, sym e.1)); only = λ t l h. shown (renewed 2) t (on_in t h) };
  machine = λ last. record {
    made = λ t c w l h. (let e = at_three (keeps 4 5) t c (kept 4 w) h in inl (on_at t e.0, sym e.1, is_five t c w h));
    first = λ t l h. shown (kept 4 5) t (on_in t h);
    next = λ t l h. absurd (true≢false (sym h));
  };
}
