use Rattle.std.proofs.Common.{ℕ, pos, ◌*ℤ◌, ◌<◌, get_or, FitsSigned}
use Rattle.std.specs.Int.{w64}
use Rattle.sp_affine.proofs.coefs.all_multiples_fit.Given as goal

abbrev pub invariant-loop-x : goal.invariant-loop-x
invariant-loop-x l = (k : ℕ) → k < l.x-index → FitsSigned w64 (get_or l.a k (pos 0) *ℤ l.fn.by)
