use Rattle.std.proofs.Common.{◌≡◌, take}
use Rattle.sp_bank.specs.Separation.{constants}
use Rattle.sp_bank.proofs.separation.have_same_constants.Given as goal

abbrev pub invariant-loop-i : goal.invariant-loop-i
invariant-loop-i l = take l.i (constants l.a) ≡ take l.i (constants l.b)
