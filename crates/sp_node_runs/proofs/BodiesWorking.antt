-- The worked body.
use Rattle.std.proofs.Common.{◌≡◌, ℕ, zero, suc, ◌<◌, ◌^◌, nat_eq, ◌==◌, Bool, true, false, if◌then◌else◌, [], ◌∷◌, slice_index_or, Some, refl, sym, ap, ◌∙◌, arith}
use Rattle.std.proofs.lemmas.Bool.{eqb-true, eq-eqb}
use Rattle.std.proofs.lemmas.List.Elements.{All-nil}
use Rattle.sp_core.specs.declared.operation.OpKind.TheVariants.{Write}
use Rattle.sp_core.specs.Events.{Event, touches, inside_at, in_group_of, writes}
use Rattle.sp_machine.specs.Examples.{always, chosen, chosen_plan}
use Rattle.sp_machine.specs.Stamps.{Stamped}
use Rattle.sp_machine.specs.Timeline.{timed}
use Rattle.sp_node_runs.specs.RunsTold.{all_events}
use Rattle.sp_node_runs.specs.BodiesExample.{node, standing, runs, events, waves}
use Rattle.sp_node_runs.specs.BodiesTold.{Happens, ActsInTime}

pub told : all_events chosen chosen_plan (always 0) node 2 3 runs ≡ events
unfolding timed chosen
told = refl

bit_is : (b : Bool) → ((if b then 1 else 0) == 1) ≡ b
bit_is true = refl
bit_is false = refl

same_event : (x y : Event) → touches x ≡ touches y → x ≡ y
same_event x y h = cc (h)

-- there is one event
record IsWritten (t : ℕ) (e : Event) : Type 0 where
  cycle : t ≡ 6
  indices : e.indices ≡ []
  act : Some e.act ≡ Some (writes 1)

only_one : (t : ℕ) (e : Event) → Happens events 4 t e → IsWritten t e
only_one t e h = by h.there.0 h.there.1 h.there.2
  where
    by : (i : ℕ) (l : i < 1) → slice_index_or events i (record { cycle = t; copy = h.copy; moment = touches e }) ≡ record { cycle = t; copy = h.copy; moment = touches e } → IsWritten t e
    by zero l same =
        let f = same_event _ e (ap (λ (x : Stamped). x.moment) same) in
        record { cycle = sym (ap (λ (x : Stamped). x.cycle) same); indices = sym (ap (λ (x : Event). x.indices) f); act = sym (ap (λ (x : Event). Some x.act) f) }
    by (suc i) l same = absurd (omega (arith, l))

pub acts : (last : ℕ) → ActsInTime waves events last 4 Write 0 (1 ∷ [])
acts last = record {
  enabled = record {
    on = λ t l (e, h). let w = only_one t e h in bit_is (nat_eq t 6) ∙ eq-eqb t 6 w.cycle;
    only = λ t l h. let now : t ≡ 6 = eqb-true t 6 (sym (bit_is (nat_eq t 6)) ∙ h) in
        (record { number = 4; standing = inside_at standing 2 (in_group_of 0 0) []; mem = 1; indices = []; act = writes 1 }, record { copy = 0; there = (0, omega arith, ap (λ u. record { cycle = u; copy = 0; moment = touches (record { number = 4; standing = inside_at standing 2 (in_group_of 0 0) []; mem = 1; indices = []; act = writes 1 }) }) (sym now)); numbered = refl });
  };
  at = λ t e l h. (only_one t e h).indices;
  word = λ t e l h f. sym (only_one t e h).act;
  index = λ t e l h. All-nil (λ net. waves.net t net < 2 ^ 31);
}
