use Rattle.sp_core.specs.CoreParts.{plain_core}
use Rattle.sp_sched.proofs.Turns.{TurnsUpTo}
use Rattle.sp_sched.proofs.body.times_in_turn.Given as goal

abbrev pub invariant-loop-op : goal.invariant-loop-op
invariant-loop-op l = TurnsUpTo (plain_core l.core) l.ops l.op-index l.times.items l.time
