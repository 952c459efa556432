use Rattle.std.proofs.Common.{◌≡◌, ◌++◌, drop, map}
use Rattle.sp_tree.specs.PlainTree.{plain_counter}
use Rattle.sp_tree.specs.Tallies.{bound_tallies}
use Rattle.sp_counts.specs.Tallies.{tally_of}
use Rattle.sp_counts.proofs.outside.bound_tallies.Given as goal

abbrev pub invariant-loop-counter : goal.invariant-loop-counter
invariant-loop-counter l = map tally_of l.bounds.items ++ bound_tallies (map plain_counter (drop l.counter-index l.counters)) ≡ bound_tallies (map plain_counter l.counters)
