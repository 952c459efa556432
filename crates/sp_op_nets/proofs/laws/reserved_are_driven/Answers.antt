use Rattle.sp_op_nets.proofs.Giving.{driven_all}
use Rattle.sp_op_nets.proofs.laws.reserved_are_driven.Goals as goal

pub returns : goal.returns
returns c = driven_all
