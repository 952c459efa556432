use Rattle.sp_node_runs.proofs.BodiesPaced.{plans_are_paced}
use Rattle.sp_node_runs.proofs.bodies.plans_are_paced.Goals as goal

pub returns : goal.returns
returns c = plans_are_paced
