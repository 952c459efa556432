use Rattle.sp_transfer_trees.proofs.Trees.{trees_transfer}
use Rattle.sp_transfer_trees.proofs.laws.trees_transfer.Goals as goal

pub returns : goal.returns
returns c core plan delays = trees_transfer core plan delays (c.laws_below.ensures core plan delays)
