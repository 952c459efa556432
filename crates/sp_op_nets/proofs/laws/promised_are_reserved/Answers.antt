use Rattle.sp_op_nets.proofs.Driving.{promised}
use Rattle.sp_op_nets.proofs.laws.promised_are_reserved.Goals as goal

pub returns : goal.returns
returns c = promised
