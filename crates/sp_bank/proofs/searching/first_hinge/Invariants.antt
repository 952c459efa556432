use Rattle.std.proofs.Common.{ℕ, ◌<◌, get_or}
use Rattle.std.specs.Int.{IsGcd}
use Rattle.sp_bank.proofs.searching.first_hinge.Given as goal

abbrev pub invariant-loop-q : goal.invariant-loop-q
invariant-loop-q l = (r : ℕ) → r < l.q → ¬ (IsGcd (get_or l.alpha r 0) l.fn.period 1)
