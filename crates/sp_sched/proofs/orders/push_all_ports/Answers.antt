use Rattle.sp_sched.proofs.OrderLists.{below_pushed}
use Rattle.sp_sched.proofs.orders.push_all_ports.Goals as goal

pub loop-j-preserved : goal.loop-j-preserved
loop-j-preserved c = below_pushed _ c.loop-j.j _ _ _ c.loop-j.invariant c.in_ok-push_ports.ensures
