use Rattle.std.proofs.Common.{drop, map}
use Rattle.sp_tree.specs.PlainTree.{plain_span}
use Rattle.sp_tree.specs.Tallies.{slice_tally}
use Rattle.sp_counts.proofs.Remaining.{Remains}
use Rattle.sp_counts.proofs.tally.Tally.add_slice.Given as goal

abbrev pub invariant-loop-span : goal.invariant-loop-span
invariant-loop-span l = Remains l.fn.self l.self (slice_tally (map plain_span l.spans)) (slice_tally (map plain_span (drop l.span-index l.spans)))
