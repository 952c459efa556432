use Rattle.std.proofs.Common.{◌≡◌, ◌++◌, take}
use Rattle.sp_tree_nets.proofs.owners.add_kept.Given as goal

abbrev pub invariant-loop-index : goal.invariant-loop-index
invariant-loop-index l = l.all.items ≡ l.fn.all.items ++ take l.index l.more
