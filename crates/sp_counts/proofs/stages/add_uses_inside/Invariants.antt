use Rattle.std.proofs.Common.{◌≡◌, ◌++◌, drop, map}
use Rattle.sp_tree.specs.Structure.{uses_inside}
use Rattle.sp_counts.specs.Tallies.{tally_of}
use Rattle.sp_counts.proofs.stages.add_uses_inside.Given as goal

abbrev pub invariant-loop-t : goal.invariant-loop-t
invariant-loop-t l = l.into.items ++ uses_inside (map tally_of (drop l.t-index l.tallies)) ≡ l.fn.into.items ++ uses_inside (map tally_of l.tallies)
