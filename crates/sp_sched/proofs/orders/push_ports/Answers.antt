use Rattle.sp_sched.proofs.OrderLists.{below_pushed}
use Rattle.sp_sched.proofs.orders.push_ports.Goals as goal

pub loop-i-preserved : goal.loop-i-preserved
loop-i-preserved c = below_pushed _ c.loop-i.i _ _ _ c.loop-i.invariant c.in_ok-push_port.ensures
