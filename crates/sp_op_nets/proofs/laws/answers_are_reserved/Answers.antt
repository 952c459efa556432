use Rattle.sp_op_nets.proofs.Driving.{answers}
use Rattle.sp_op_nets.proofs.laws.answers_are_reserved.Goals as goal

pub returns : goal.returns
returns c = answers
