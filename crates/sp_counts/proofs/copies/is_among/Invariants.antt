use Rattle.std.proofs.Common.{◌≡◌, drop}
use Rattle.sp_tree.specs.Tallies.{is_among}
use Rattle.sp_counts.proofs.copies.is_among.Given as goal

abbrev pub invariant-loop-k : goal.invariant-loop-k
invariant-loop-k l = is_among l.m (drop l.k-index l.all) ≡ is_among l.m l.all
