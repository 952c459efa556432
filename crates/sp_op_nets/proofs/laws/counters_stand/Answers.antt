use Rattle.sp_op_nets.proofs.Giving.{stand_all}
use Rattle.sp_op_nets.proofs.laws.counters_stand.Goals as goal

pub returns : goal.returns
returns c = stand_all
