use Rattle.std.proofs.Common.{drop, map}
use Rattle.sp_tree.specs.PlainTree.{plain_counter}
use Rattle.sp_tree.specs.Streams.{all_tallies}
use Rattle.sp_tree.specs.Tallies.{bound_tallies}
use Rattle.sp_counts.proofs.Remaining.{Remains}
use Rattle.sp_counts.proofs.stream.add_bounds.Given as goal

abbrev pub invariant-loop-counter : goal.invariant-loop-counter
invariant-loop-counter l = Remains l.fn.into l.into (all_tallies (bound_tallies (map plain_counter l.counters))) (all_tallies (bound_tallies (map plain_counter (drop l.counter-index l.counters))))
