use Rattle.std.proofs.Common.{◌≡◌, ◌≤◌, drop, map}
use Rattle.sp_tree.specs.Counts.{up_to_last}
use Rattle.sp_tree.specs.Tallies.{is_among}
use Rattle.sp_counts.specs.Stages.{lists_of}
use Rattle.sp_counts.proofs.LastLemmas.{last_so_far}
use Rattle.sp_counts.proofs.copies.up_to_last.Given as goal

abbrev pub invariant-loop-i : goal.invariant-loop-i
invariant-loop-i l = (l.last ≤ l.i) × (last_so_far l.last l.i (up_to_last (map (is_among l.m) (lists_of (drop l.i l.stages)))) ≡ up_to_last (map (is_among l.m) (lists_of l.stages)))
