use Rattle.sp_op_nets.proofs.Driving.{stay}
use Rattle.sp_op_nets.proofs.laws.reserved_stay.Goals as goal

pub returns : goal.returns
returns c = stay
