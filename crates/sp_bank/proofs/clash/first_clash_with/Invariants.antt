use Rattle.std.proofs.Common.{ℕ, ◌<◌}
use Rattle.sp_bank.specs.Separation.{PairApart}
use Rattle.sp_bank.proofs.clash.first_clash_with.Given as goal

abbrev pub invariant-loop-v : goal.invariant-loop-v
invariant-loop-v l = (w : ℕ) → l.u < w → w < l.v → PairApart l.s l.group l.u w
