use Rattle.sp_lane_trees.proofs.OutersGroups.{outer_goes}
use Rattle.sp_lane_trees.proofs.outers.outers_go.Goals as goal

pub returns : goal.returns
returns c core = outer_goes core (c.lists_fit.ensures core) (c.nodes_fit.ensures core) (c.places_have_room.ensures core)
