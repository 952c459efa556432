use Rattle.sp_op_nets.proofs.Giving.{same_give}
use Rattle.sp_op_nets.proofs.laws.same_nets_give.Goals as goal

pub returns : goal.returns
returns c = same_give
