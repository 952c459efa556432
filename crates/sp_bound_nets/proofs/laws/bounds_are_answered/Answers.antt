use Rattle.sp_bound_nets.proofs.Walking.{bounds_answered}
use Rattle.sp_bound_nets.proofs.laws.bounds_are_answered.Goals as goal

pub returns : goal.returns
returns c = bounds_answered
