use Rattle.sp_machine.proofs.OuterOrder.{outers_in_order}
use Rattle.sp_machine.proofs.laws.outer_bodies_come_in_order.Goals as goal

pub returns : goal.returns
returns c = outers_in_order
