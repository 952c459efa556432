use Rattle.std.proofs.Common.{◌≡◌, ◌++◌}
use Rattle.sp_tree_nets.proofs.tree.append.Given as goal

-- what stands so far, and behind it what is left
abbrev pub invariant-loop-list : goal.invariant-loop-list
invariant-loop-list l = l.all.items ++ l.list-iterator.rest.items ≡ l.fn.all.items ++ l.fn.more.items
