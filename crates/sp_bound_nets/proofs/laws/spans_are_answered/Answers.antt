use Rattle.sp_bound_nets.proofs.Walking.{spans_answered}
use Rattle.sp_bound_nets.proofs.laws.spans_are_answered.Goals as goal

pub returns : goal.returns
returns c = spans_answered
