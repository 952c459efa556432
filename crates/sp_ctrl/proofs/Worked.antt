-- The worked branch.
use Rattle.std.proofs.Common.{◌≡◌, ◌≢◌, ℕ, suc, ◌&&◌, ◌||◌, not, Bool, true, false, [], refl, ap₂, ◌∙◌, arith}
use Rattle.sp_netlist.specs.declared.parts.Child.{Child}
use Rattle.sp_netlist.specs.Draft.{Draft}
use Rattle.sp_netlist.specs.Signals.{Signals}
use Rattle.sp_gates.specs.Grows.{Fills, Opens}
use Rattle.sp_gates.specs.Tested.{is_on}
use Rattle.sp_gates.proofs.Growing.{Awaits-stays, HasNet-stays, Grows-join, more_gates}
use Rattle.sp_ctrl.specs.Fits.{IsChild}
use Rattle.sp_ctrl.specs.Runs.{IsAfter, RunsBranch}
use Rattle.sp_ctrl.proofs.Waiting.{awaits_open, none_in}

-- a net is promised, and cells are added that drive no open net
pub opens_more : (a b c : Draft) (net : ℕ) → Opens a b net → Fills b c [] → Opens a c net
opens_more a b c net o f = record {
  grows = Grows-join a b c o.grows f.grows;
  gates = more_gates a b c o.gates f.gates;
  fresh = o.fresh;
  still_open = λ n was. f.still_open n (o.still_open n was) (none_in n);
  no_other = λ n is other. o.no_other n (f.no_other n is).0 other;
}

-- a child stays one while another net is promised
pub child_beside : (a b : Draft) (child : Child) (net : ℕ) → Opens a b net → IsChild a child → IsChild b child
child_beside a b child net o h = record {
  start = Awaits-stays a b child.start 1 o.grows (o.still_open child.start (awaits_open a child.start 1 h.start)) h.start;
  done = HasNet-stays a b child.done 1 o.grows h.done;
}

-- and its start is another net
pub other_start : (a b : Draft) (child : Child) (net : ℕ) → Opens a b net → IsChild a child → net ≢ child.start
other_start a b child net o h = λ e. let l = (awaits_open a child.start 1 h.start).within in let f = o.fresh in absurd (omega (arith, l, f, e))

either_way : (a b : Bool) → ((a && b) || (a && not b)) ≡ a
either_way true true = refl
either_way true false = refl
either_way false true = refl
either_way false false = refl

pub five_later : (s : Signals) (start : ℕ) (test : Child) (tested : ℕ) (first second : Child) (done : ℕ) → RunsBranch s start test tested first second done → IsAfter (is_on s test.done) (is_on s test.start)
    → IsAfter (is_on s first.done) (is_on s first.start) → IsAfter (is_on s second.done) (is_on s second.start) → (t : ℕ) → is_on s done (suc (suc (suc (suc (suc t))))) ≡ is_on s start t
five_later s start test tested first second done h a b c t =
    h.ends.on (suc (suc (suc (suc t))))
    ∙ ap₂ (λ x y. x || y) (b.on (suc (suc (suc t))) ∙ h.goes.on (suc (suc t))) (c.on (suc (suc (suc t))) ∙ h.turns.on (suc (suc t)))
    ∙ either_way (is_on s test.done (suc (suc t))) (is_on s tested (suc (suc t)))
    ∙ a.on (suc t) ∙ h.tests.on t
