use Rattle.sp_lane_trees.proofs.NodesBranch.{branch_goes}
use Rattle.sp_lane_trees.proofs.nodes.branches_go.Goals as goal

pub returns : goal.returns
returns c core = branch_goes core (c.lists_fit.ensures core) (c.nodes_fit.ensures core) (c.places_have_room.ensures core)
