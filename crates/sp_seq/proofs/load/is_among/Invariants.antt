use Rattle.std.proofs.Common.{◌≡◌, drop}
use Rattle.sp_tree.specs.Tallies.{is_among}
use Rattle.sp_seq.proofs.load.is_among.Given as goal

abbrev pub invariant-loop-k : goal.invariant-loop-k
invariant-loop-k l = is_among l.memory (drop l.k-index l.all) ≡ is_among l.memory l.all
