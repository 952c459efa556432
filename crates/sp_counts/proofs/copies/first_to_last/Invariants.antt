use Rattle.std.proofs.Common.{◌≡◌, drop, map}
use Rattle.sp_tree.specs.Counts.{first_to_last}
use Rattle.sp_tree.specs.Tallies.{is_among}
use Rattle.sp_counts.specs.Stages.{lists_of}
use Rattle.sp_counts.proofs.copies.first_to_last.Given as goal

abbrev pub invariant-loop-i : goal.invariant-loop-i
invariant-loop-i l = first_to_last (map (is_among l.m) (lists_of (drop l.i l.stages))) ≡ first_to_last (map (is_among l.m) (lists_of l.stages))
