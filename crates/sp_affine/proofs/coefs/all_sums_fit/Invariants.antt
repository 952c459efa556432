use Rattle.std.proofs.Common.{ℕ, pos, ◌+ℤ◌, ◌<◌, get_or, FitsSigned}
use Rattle.std.specs.Int.{w64}
use Rattle.sp_affine.proofs.coefs.all_sums_fit.Given as goal

abbrev pub invariant-loop-i : goal.invariant-loop-i
invariant-loop-i l = (k : ℕ) → k < l.i → FitsSigned w64 (get_or l.a k (pos 0) +ℤ get_or l.b k (pos 0))
