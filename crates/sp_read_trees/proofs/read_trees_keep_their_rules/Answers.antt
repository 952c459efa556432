use Rattle.sp_read_trees.proofs.Whole.{tree_keeps}
use Rattle.sp_read_trees.proofs.read_trees_keep_their_rules.Goals as goal

pub returns : goal.returns
returns c = tree_keeps
