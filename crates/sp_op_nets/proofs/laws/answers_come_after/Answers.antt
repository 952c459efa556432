use Rattle.sp_op_nets.proofs.Answering.{come_after}
use Rattle.sp_op_nets.proofs.laws.answers_come_after.Goals as goal

pub returns : goal.returns
returns c = come_after
