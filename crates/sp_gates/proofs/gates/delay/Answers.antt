use Rattle.std.proofs.Common.{◌≡◌, [], arith, ap, ◌+◌}
use Rattle.sp_gates.proofs.Growing.{Fills-none, Fills-join, IsOne-stays}
use Rattle.sp_gates.proofs.Running.{runs_earlier}
use Rattle.sp_gates.proofs.Words.{later_step, before_step}
use Rattle.sp_gates.proofs.gates.delay.Goals as goal

pub hold-requires-clause-next : goal.hold-requires-clause-next
hold-requires-clause-next c = c.loop-step.invariant.net

pub hold-requires-clause-enable : goal.hold-requires-clause-enable
hold-requires-clause-enable c = (IsOne-stays _ _ _ c.loop-step.invariant.fills.grows c.requires.one).net_stands

pub loop-step-init : goal.loop-step-init
loop-step-init c = record {
  fills = Fills-none _;
  net = c.requires.net;
  later = λ s r t. let e : t + 0 ≡ t = omega arith in ap (λ x. s.net x c.args.net) e;
  before = λ s r t l. absurd (omega (arith, l));
}

pub loop-step-preserved : goal.loop-step-preserved
loop-step-preserved c =
    let i = c.loop-step.invariant in
    let h = c.in_ok-late.ensures in
    record {
      fills = Fills-join _ _ _ [] [] i.fills h.fills;
      net = h.net;
      later = λ s r.
          let before = runs_earlier _ _ s h.fills.grows r in
          later_step (λ t. s.net t c.in_ok-late.late) (λ t. s.net t c.loop-step.late) (λ t. s.net t c.args.net) (λ t. s.net t c.args.one) c.loop-step._step (h.word s r)
          (c.requires.one.always s (runs_earlier _ _ s i.fills.grows before)) (i.later s before);
      before = λ s r.
          let before = runs_earlier _ _ s h.fills.grows r in
          before_step (λ t. s.net t c.in_ok-late.late) (λ t. s.net t c.loop-step.late) (λ t. s.net t c.args.one) c.loop-step._step (h.word s r)
          (c.requires.one.always s (runs_earlier _ _ s i.fills.grows before)) (i.before s before);
    }
