use Rattle.sp_along.proofs.MetApart.{runs_apart}
use Rattle.sp_along.proofs.met.runs_are_apart.Goals as goal

pub returns : goal.returns
returns c = runs_apart
