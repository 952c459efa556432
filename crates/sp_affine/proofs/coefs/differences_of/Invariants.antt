use Rattle.std.proofs.Common.{◌≡◌, take}
use Rattle.sp_affine.specs.Combination.{differences}
use Rattle.sp_affine.proofs.coefs.differences_of.Given as goal

abbrev pub invariant-loop-i : goal.invariant-loop-i
invariant-loop-i l = l.made.items ≡ take l.i (differences l.a l.b)
