use Rattle.std.proofs.lemmas.List.{get_or_default}
use Rattle.sp_modulo.proofs.Rising.{after_same, after_raised}
use Rattle.sp_modulo.proofs.least.raise_all.Goals as goal
use Rattle.sp_modulo.proofs.least.raise_all.Goals.{in-Same, in-Raised}

pub loop-order-preserved : goal.loop-order-preserved
loop-order-preserved c = let at = c.loop-order-test.true in elim c.match-raise.branch [
  | in-Same w ↦ (let h = c.raise.ensures.same w.in-Same.is in rw (w.step-is) (after_same _ _ _ _ _ _ _ _ _ (λ d. get_or_default c.args.orders.now c.loop-order.order-index d _ at) c.loop-order.invariant h.0 h.1))
  | in-Raised w ↦ (let h = c.raise.ensures in rw (w.step-is) (after_raised _ _ _ _ _ _ _ _ _ (λ d. get_or_default c.args.orders.now c.loop-order.order-index d _ at) c.loop-order.invariant (h.raised w.in-Raised.is) h.within h.under))
]
