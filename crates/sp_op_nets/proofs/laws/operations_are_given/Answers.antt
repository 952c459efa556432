use Rattle.sp_op_nets.proofs.Giving.{are_given}
use Rattle.sp_op_nets.proofs.laws.operations_are_given.Goals as goal

pub returns : goal.returns
returns c = are_given
