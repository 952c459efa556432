use Rattle.sp_op_nets.proofs.Driving.{some_driven}
use Rattle.sp_op_nets.proofs.laws.some_reserved_are_driven.Goals as goal

pub returns : goal.returns
returns c = some_driven
