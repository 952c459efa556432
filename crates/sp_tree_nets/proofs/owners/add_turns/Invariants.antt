use Rattle.std.proofs.Common.{◌≡◌, ◌++◌}
use Rattle.sp_tree_nets.proofs.owners.add_turns.Given as goal

-- what stands so far, and behind it what is left
abbrev pub invariant-loop-turning : goal.invariant-loop-turning
invariant-loop-turning l = l.all.items ++ l.turning-iterator.rest.items ≡ l.fn.all.items ++ l.fn.more.items
