use Rattle.sp_op_nets.proofs.Driving.{together}
use Rattle.sp_op_nets.proofs.laws.reserved_come_together.Goals as goal

pub returns : goal.returns
returns c = together
