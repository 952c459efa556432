use Rattle.sp_transfer_trees.proofs.Trees.{cores_transfer}
use Rattle.sp_transfer_trees.proofs.laws.cores_transfer.Goals as goal

pub returns : goal.returns
returns c core plan = cores_transfer core plan (c.laws_below.ensures core plan) (c.delays_are_there.ensures core)
