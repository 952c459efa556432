use Rattle.sp_tree_runs.proofs.BodiesTaking.{runs_are_done}
use Rattle.sp_tree_runs.proofs.bodies.runs_are_done.Goals as goal

pub returns : goal.returns
returns c = runs_are_done
