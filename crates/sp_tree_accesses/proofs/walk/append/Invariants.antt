use Rattle.std.proofs.Common.{◌≡◌, ◌++◌}
use Rattle.sp_tree_accesses.proofs.walk.append.Given as goal

-- what stands so far, and behind it what is left
abbrev pub invariant-loop-access : goal.invariant-loop-access
invariant-loop-access l = l.all.items ++ l.access-iterator.rest.items ≡ l.fn.all.items ++ l.fn.more.items
