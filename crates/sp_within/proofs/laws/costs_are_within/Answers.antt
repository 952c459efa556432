use Rattle.sp_within.proofs.Within.{costs_are_within}
use Rattle.sp_within.proofs.laws.costs_are_within.Goals as goal

pub returns : goal.returns
returns c = costs_are_within
