use Rattle.std.proofs.Common.{◌∙◌}
use Rattle.sp_plan.proofs.Kept.{then_more, else_more}
use Rattle.sp_plan.proofs.times.keep_all_ports.Goals as goal
use Rattle.sp_plan.proofs.times.keep_all_ports.Goals.{then-kept, else-kept}

pub loop-j-preserved : goal.loop-j-preserved
loop-j-preserved c = elim c.if-kept.branch [
  | then-kept w ↦ then_more _ _ c.loop-j.j c.loop-j.kept _ c.loop-j.invariant w.if-kept.true (w.kept-is ∙ w.keep_ports-kept.ensures)
  | else-kept w ↦ else_more _ _ c.loop-j.j c.loop-j.kept _ c.loop-j.invariant w.if-kept.false (w.kept-is ∙ w.if-kept.false)
]
