use Rattle.sp_node_runs.proofs.BodiesBounds.{runs_take_bounds}
use Rattle.sp_node_runs.proofs.bodies.runs_take_bounds.Goals as goal

pub returns : goal.returns
returns c core = runs_take_bounds core (c.lists_fit.ensures core)
