use Rattle.sp_stages.proofs.Listed.{AreReplaced}
use Rattle.sp_stages.proofs.leaders.replace.Given as goal

abbrev pub invariant-loop-leader : goal.invariant-loop-leader
invariant-loop-leader l = AreReplaced l.fn.leaders.items l.leader-items l.lesser l.greater l.leader-index
