use Rattle.sp_lane_trees.proofs.NodesStand.{branch_stands}
use Rattle.sp_lane_trees.proofs.nodes.branches_stand.Goals as goal

pub returns : goal.returns
returns c core = branch_stands core
