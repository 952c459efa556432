use Rattle.std.proofs.Common.{◌≡◌, ◌++◌, drop, map}
use Rattle.std.specs.List.{flat_map}
use Rattle.sp_tree.specs.Tallies.{uses_of}
use Rattle.sp_counts.specs.Tallies.{tally_of}
use Rattle.sp_counts.proofs.stages.add_all_uses.Given as goal

abbrev pub invariant-loop-t : goal.invariant-loop-t
invariant-loop-t l = l.into.items ++ flat_map uses_of (map tally_of (drop l.t-index l.tallies)) ≡ l.fn.into.items ++ flat_map uses_of (map tally_of l.tallies)
