use Rattle.sp_along.proofs.MetPathOrder.{runs_ordered}
use Rattle.sp_along.proofs.met.runs_are_in_order.Goals as goal

pub returns : goal.returns
returns c = runs_ordered
