use Rattle.sp_lane_trees.proofs.StagesGroups.{stages_go}
use Rattle.sp_lane_trees.proofs.stages.stages_go.Goals as goal

pub returns : goal.returns
returns c core = stages_go core (c.lists_fit.ensures core) (c.nodes_fit.ensures core) (c.places_have_room.ensures core)
