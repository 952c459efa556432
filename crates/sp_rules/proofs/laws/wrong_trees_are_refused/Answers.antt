use Rattle.sp_rules.proofs.TreeLemmas.{tree_none, tree_kept}
use Rattle.sp_rules.proofs.laws.wrong_trees_are_refused.Goals as goal

pub returns : goal.returns
returns c = λ s read. (tree_kept s read, tree_none s)
