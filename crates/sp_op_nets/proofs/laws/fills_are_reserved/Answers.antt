use Rattle.sp_op_nets.proofs.Driving.{filled}
use Rattle.sp_op_nets.proofs.laws.fills_are_reserved.Goals as goal

pub returns : goal.returns
returns c = filled
