use Rattle.std.proofs.Common.{◌*◌, ◌≤◌, take}
use Rattle.sp_bank.specs.Separation.{constants, weighted_sum}
use Rattle.sp_bank.proofs.ResidueLemmas.{IsCongruent}
use Rattle.sp_bank.proofs.residue.weighted_residue.Given as goal

abbrev pub invariant-loop-i : goal.invariant-loop-i
invariant-loop-i l = record {
  congruent : IsCongruent l.period (weighted_sum (take l.i l.alpha) (take l.i (constants l.access))) l.sum;
  small : l.sum ≤ l.i * 3968;
}
