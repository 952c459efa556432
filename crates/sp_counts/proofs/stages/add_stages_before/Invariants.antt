use Rattle.std.proofs.Common.{◌≡◌, ◌++◌, drop, map}
use Rattle.sp_tree.specs.Structure.{stages_before}
use Rattle.sp_counts.specs.Stages.{lists_of}
use Rattle.sp_counts.specs.Tallies.{tally_of}
use Rattle.sp_counts.proofs.stages.add_stages_before.Given as goal

abbrev pub invariant-loop-t : goal.invariant-loop-t
invariant-loop-t l = lists_of l.out.items ++ stages_before (map tally_of (drop l.t-index l.tallies)) ≡ lists_of l.fn.out.items ++ stages_before (map tally_of l.tallies)
