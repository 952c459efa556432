use Rattle.sp_lane_trees.proofs.NodesStand.{fsm_stands}
use Rattle.sp_lane_trees.proofs.nodes.fsms_stand.Goals as goal

pub returns : goal.returns
returns c core = fsm_stands core
