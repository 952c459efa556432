use Rattle.sp_tree_runs.proofs.BodiesBuilding.{lists_do}
use Rattle.sp_tree_runs.proofs.bodies.lists_do.Goals as goal

pub returns : goal.returns
returns c core plan delays = lists_do core plan delays (c.lists_work.ensures core)
