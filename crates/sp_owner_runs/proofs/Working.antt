-- The worked nets of owners.
use Rattle.std.proofs.Common.{◌≡◌, ℕ, zero, suc, ◌==◌, ◌⊎◌, inl, inr, Bool, true, false, if◌then◌else◌, [], ◌∷◌, None, nat_eq, refl, sym, ap, subst, arith}
use Rattle.std.specs.List.{Contains}
use Rattle.std.proofs.lemmas.Bool.{eqb-true, true≢false}
use Rattle.sp_gates.specs.Tested.{is_on}
use Rattle.sp_core.specs.Events.{Moment, renews, keeps}
use Rattle.sp_core.specs.PlainCore.{PlainCore}
use Rattle.sp_machine.specs.Stamps.{Stamped}
use Rattle.sp_mem.specs.Copies.{copy_at}
use Rattle.sp_node_runs.proofs.BodiesListed.{here, none_there, first_or_later}
use Rattle.sp_tree_events.specs.ActsExample.{waves, in_three}
use Rattle.sp_tree_events.specs.OwnersOwning.{Deed, renewed, kept, moment_of, Shows}
use Rattle.sp_tree_handed.specs.declared.owners.Keeping.{Keeping}
use Rattle.sp_tree_handed.specs.declared.owners.Renewal.{Renewal}
use Rattle.sp_tree_handed.specs.Owners.{renewal, keeping}
use Rattle.sp_owner_runs.specs.Acting.{IsRenewed, IsKept, OwnersAct}
use Rattle.sp_owner_runs.specs.Example.{WorkedNets}

on_in : (t : ℕ) → is_on waves 0 t ≡ true → t ≡ 3
on_in t h = by (nat_eq t 3) refl h
  where
    by : (b : Bool) → nat_eq t 3 ≡ b → ((if b then 1 else 0) == 1) ≡ true → t ≡ 3
    by true q k = eqb-true t 3 q
    by false q k = absurd (true≢false (sym k))

on_at : (t : ℕ) → t ≡ 3 → is_on waves 0 t ≡ true
on_at t e = subst (λ u. is_on waves 0 u ≡ true) (sym e) refl

-- the one deed is in cycle 3 at copy 0
shown : (d : Deed) (t : ℕ) → is_on waves 0 t ≡ true → Shows (in_three (moment_of d)) t 0 d
shown d t on = subst (λ u. Shows (in_three (moment_of d)) u 0 d) (sym (on_in t on)) (0, omega arith, refl)

record IsThat (x : Moment) (t c : ℕ) (d : Deed) : Type 0 where
  cycle : t ≡ 3
  copy : c ≡ 0
  same : x ≡ moment_of d

at_three : (x : Moment) (t c : ℕ) (d : Deed) → Shows (in_three x) t c d → IsThat x t c d
at_three x t c d (zero, l, e) = record { cycle = sym (ap (λ (y : Stamped). y.cycle) e); copy = sym (ap (λ (y : Stamped). y.copy) e); same = ap (λ (y : Stamped). y.moment) e }
at_three x t c d (suc i, l, e) = absurd (omega (arith, l))

one_of : {A : Type 0} (P : A → Type 0) (x y : A) → P x → Contains (x ∷ []) y → P y
one_of P x y h c = by (first_or_later x y [] c)
  where
    by : (x ≡ y) ⊎ Contains [] y → P y
    by (inl e) = subst P e h
    by (inr d) = absurd (none_there y d)

same_fresh : (m : ℕ) → renews 2 ≡ renews m → 2 ≡ m
same_fresh m e = cc (e)

same_state : (m w : ℕ) → keeps 4 5 ≡ keeps m w → (4 ≡ m) × (5 ≡ w)
same_state m w e = (cc (e), cc (e))

never_fresh : (m : ℕ) → keeps 4 5 ≡ renews m → ⊥
never_fresh m e = absurd (cc (e))

never_kept : (m w : ℕ) → renews 2 ≡ keeps m w → ⊥
never_kept m w e = absurd (cc (e))

fresh_then : (t m c : ℕ) → t ≡ 3 → c ≡ 0 → 2 ≡ m → IsRenewed waves t m c (renewal 2 0 None ∷ [])
fresh_then t m c e first same = (renewal 2 0 None, here (renewal 2 0 None) [], same, on_at t e, sym first)

kept_then : (t m c w : ℕ) → t ≡ 3 → c ≡ 0 → 4 ≡ m → 5 ≡ w → IsKept waves t m c (keeping 4 0 1 None ∷ []) w
kept_then t m c w e first same word = (keeping 4 0 1 None, here (keeping 4 0 1 None) [], same, on_at t e, word, sym first)

loop : (core : PlainCore) (last : ℕ) → OwnersAct core waves (in_three (renews 2)) last (renewal 2 0 None ∷ []) []
loop core last = record {
  renews = λ r u there le on. one_of (λ (r : Renewal). is_on waves r.first u ≡ true → Shows (in_three (renews 2)) u (copy_at waves u r.copy) (renewed r.mem)) (renewal 2 0 None) r (λ on. shown (renewed 2) u on) there on;
  keeps = λ k u there le on. absurd (none_there k there);
  all_renewals = λ u c m le counts h. (let x = at_three (renews 2) u c (renewed m) h in fresh_then u m c x.cycle x.copy (same_fresh m x.same));
  all_keepings = λ u c m v le h. absurd (never_kept m v (at_three (renews 2) u c (kept m v) h).same);
}

machine : (core : PlainCore) (last : ℕ) → OwnersAct core waves (in_three (keeps 4 5)) last [] (keeping 4 0 1 None ∷ [])
machine core last = record {
  renews = λ r u there le on. absurd (none_there r there);
  keeps = λ k u there le on. one_of (λ (k : Keeping). is_on waves k.done u ≡ true → Shows (in_three (keeps 4 5)) u (copy_at waves u k.copy) (kept k.mem (waves.net u k.word))) (keeping 4 0 1 None) k (λ on. shown (kept 4 5) u on) there on;
  all_renewals = λ u c m le counts h. absurd (never_fresh m (at_three (keeps 4 5) u c (renewed m) h).same);
  all_keepings = λ u c m v le h. (let x = at_three (keeps 4 5) u c (kept m v) h in let e = same_state m v x.same in kept_then u m c v x.cycle x.copy e.0 e.1);
}

pub worked : WorkedNets
worked = record { loop = loop; machine = machine }
