use Rattle.std.proofs.Common.{◌∙◌}
use Rattle.sp_plan.proofs.Kept.{then_more, else_more}
use Rattle.sp_plan.proofs.times.keep_ports.Goals as goal
use Rattle.sp_plan.proofs.times.keep_ports.Goals.{then-kept, else-kept}

pub loop-i-preserved : goal.loop-i-preserved
loop-i-preserved c = elim c.if-kept.branch [
  | then-kept w ↦ then_more _ _ c.loop-i.i c.loop-i.kept _ c.loop-i.invariant w.if-kept.true (w.kept-is ∙ w.keep_port-kept.ensures)
  | else-kept w ↦ else_more _ _ c.loop-i.i c.loop-i.kept _ c.loop-i.invariant w.if-kept.false (w.kept-is ∙ w.if-kept.false)
]
