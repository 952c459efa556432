use Rattle.sp_transfer_trees.proofs.Trees.{going_is_moving}
use Rattle.sp_transfer_trees.proofs.laws.going_is_moving.Goals as goal

pub returns : goal.returns
returns c = going_is_moving
