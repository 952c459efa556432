use Rattle.std.proofs.Common.{◌≡◌, ◌++◌}
use Rattle.sp_tree_nets.proofs.moves.append_moves.Given as goal

-- what stands so far, and behind it what is left
abbrev pub invariant-loop-one : goal.invariant-loop-one
invariant-loop-one l = l.all.items ++ l.one-iterator.rest.items ≡ l.fn.all.items ++ l.fn.more.items
