use Rattle.std.proofs.Common.{◌≡◌, drop, ◌++◌}
use Rattle.sp_patterns.specs.Forms.{nearest_coefs}
use Rattle.sp_patterns.proofs.leaves.nearest_coefs.Given as goal

abbrev pub invariant-loop-i : goal.invariant-loop-i
invariant-loop-i l = l.coefs.items ++ nearest_coefs (drop l.i l.places) l.c ≡ nearest_coefs l.places l.c
