use Rattle.sp_tree_runs.proofs.BodiesBuilding.{bodies_go_as_told}
use Rattle.sp_tree_runs.proofs.bodies.bodies_go_as_told.Goals as goal

pub returns : goal.returns
returns c core plan delays = bodies_go_as_told core plan delays (c.counted_inners_work.ensures core plan delays) (c.single_inners_work.ensures core plan delays) (c.lists_work.ensures core) (c.trees_go_as_told.ensures core plan delays)
