use Rattle.sp_lane_trees.proofs.OutersStand.{outer_stands}
use Rattle.sp_lane_trees.proofs.outers.outers_stand.Goals as goal

pub returns : goal.returns
returns c core = outer_stands core
