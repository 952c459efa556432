use Rattle.sp_time.proofs.Whole.{costs_bound}
use Rattle.sp_time.proofs.laws.costs_bound.Goals as goal

pub returns : goal.returns
returns c = costs_bound
