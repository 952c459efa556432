use Rattle.sp_op_nets.proofs.Answering.{have_nets}
use Rattle.sp_op_nets.proofs.laws.answers_have_nets.Goals as goal

pub returns : goal.returns
returns c = have_nets
