-- Nets that are to be driven while others are.
use Rattle.std.proofs.Common.{◌≡◌, ◌≢◌, ℕ, zero, suc, Bool, [], ◌∷◌, Contains, Option, Some, None, option_map, slice_get, refl, sym, arith}
use Rattle.std.proofs.lemmas.Option.{slice_get_within}
use Rattle.sp_netlist.specs.Draft.{Draft}
use Rattle.sp_gates.specs.Grows.{Fills}
use Rattle.sp_gates.specs.Nets.{IsOpen, Awaits}
use Rattle.sp_gates.proofs.Growing.{Awaits-stays, HasNet-stays}
use Rattle.sp_ctrl.specs.Fits.{IsChild, BranchFits, FsmFits}
use Rattle.sp_netlist.specs.declared.parts.Child.{Child}

was_promised : (x : Option (ℕ × Bool)) (width : ℕ) → option_map (λ p. p.0) x ≡ Some width → (p : ℕ × Bool) × (x ≡ Some p)
was_promised (Some p) width e = (p, refl)
was_promised None width e = absurd (cc)

pub awaits_open : (d : Draft) (net width : ℕ) → Awaits d net width → IsOpen d net
awaits_open d net width h = record { within = (let p = was_promised (slice_get d.promised net) width h.wide in slice_get_within d.promised net p.0 p.1); undriven = h.undriven }

pub none_in : (x : ℕ) → Contains [] x → ⊥
none_in x c = let l = c.1 in absurd (omega (arith, l))

one_in : (x y : ℕ) → y ≢ x → Contains (x ∷ []) y → ⊥
one_in x y other (zero, l, e) = other (sym e)
one_in x y other (suc k, l, e) = absurd (omega (arith, l))

pub awaits_kept : (a b : Draft) (net width : ℕ) → Fills a b [] → Awaits a net width → Awaits b net width
awaits_kept a b net width f h = Awaits-stays a b net width f.grows (f.still_open net (awaits_open a net width h) (none_in net)) h

pub awaits_beside : (a b : Draft) (net other width : ℕ) → Fills a b (other ∷ []) → net ≢ other → Awaits a net width → Awaits b net width
awaits_beside a b net other width f apart h = Awaits-stays a b net width f.grows (f.still_open net (awaits_open a net width h) (one_in other net apart)) h

child_kept : (a b : Draft) (child : Child) → Fills a b [] → IsChild a child → IsChild b child
child_kept a b child f h = record { start = awaits_kept a b child.start 1 f h.start; done = HasNet-stays a b child.done 1 f.grows h.done }

pub branch_kept : (a b : Draft) (start : ℕ) (test : Child) (tested : ℕ) (chosen left : Child) → Fills a b [] → BranchFits a start test tested chosen left → BranchFits b start test tested chosen left
branch_kept a b start test tested chosen left f h = record {
  start_net = HasNet-stays a b start 1 f.grows h.start_net;
  tested_net = HasNet-stays a b tested 1 f.grows h.tested_net;
  test_child = child_kept a b test f h.test_child;
  yes_child = child_kept a b chosen f h.yes_child;
  no_child = child_kept a b left f h.no_child;
  yes_apart = h.yes_apart;
  no_apart = h.no_apart;
  both_apart = h.both_apart;
}

pub fsm_kept : (a b : Draft) (start : ℕ) (first test : Child) (tested : ℕ) (body next : Child) → Fills a b [] → FsmFits a start first test tested body next → FsmFits b start first test tested body next
fsm_kept a b start first test tested body next f h = record {
  start_net = HasNet-stays a b start 1 f.grows h.start_net;
  tested_net = HasNet-stays a b tested 1 f.grows h.tested_net;
  first_child = child_kept a b first f h.first_child;
  test_child = child_kept a b test f h.test_child;
  body_child = child_kept a b body f h.body_child;
  next_child = child_kept a b next f h.next_child;
  test_apart = h.test_apart;
  body_apart = h.body_apart;
  body_test = h.body_test;
  next_apart = h.next_apart;
  next_test = h.next_test;
  next_body = h.next_body;
}
