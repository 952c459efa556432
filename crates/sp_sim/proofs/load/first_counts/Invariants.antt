use Rattle.std.proofs.Common.{◌≡◌, length}
use Rattle.sp_sim.proofs.load.first_counts.Given as goal

abbrev pub invariant-loop-bank : goal.invariant-loop-bank
invariant-loop-bank l = length l.counts.items ≡ l._bank
