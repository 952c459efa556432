use Rattle.sp_lane_trees.proofs.NodesFsm.{fsm_goes}
use Rattle.sp_lane_trees.proofs.nodes.fsms_go.Goals as goal

pub returns : goal.returns
returns c core = fsm_goes core (c.lists_fit.ensures core) (c.nodes_fit.ensures core) (c.places_have_room.ensures core)
