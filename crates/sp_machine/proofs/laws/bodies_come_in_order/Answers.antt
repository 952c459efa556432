use Rattle.sp_machine.proofs.InnerOrder.{bodies_in_order}
use Rattle.sp_machine.proofs.laws.bodies_come_in_order.Goals as goal

pub returns : goal.returns
returns c = bodies_in_order
