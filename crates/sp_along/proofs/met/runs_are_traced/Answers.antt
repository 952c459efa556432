use Rattle.sp_along.proofs.MetTraces.{runs_traced}
use Rattle.sp_along.proofs.met.runs_are_traced.Goals as goal

pub returns : goal.returns
returns c = runs_traced
