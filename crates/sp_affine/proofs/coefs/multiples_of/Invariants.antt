use Rattle.std.proofs.Common.{◌≡◌, take}
use Rattle.sp_affine.specs.Combination.{multiples}
use Rattle.sp_affine.proofs.coefs.multiples_of.Given as goal

abbrev pub invariant-loop-x : goal.invariant-loop-x
invariant-loop-x l = l.made.items ≡ take l.x-index (multiples l.a l.fn.by)
