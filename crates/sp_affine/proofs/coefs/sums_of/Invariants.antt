use Rattle.std.proofs.Common.{◌≡◌, take}
use Rattle.sp_affine.specs.Combination.{sums}
use Rattle.sp_affine.proofs.coefs.sums_of.Given as goal

abbrev pub invariant-loop-i : goal.invariant-loop-i
invariant-loop-i l = l.made.items ≡ take l.i (sums l.a l.b)
