use Rattle.sp_loop_nets.proofs.Leaving.{left_reserved}
use Rattle.sp_loop_nets.proofs.laws.left_are_reserved.Goals as goal

pub returns : goal.returns
returns c = left_reserved
