use Rattle.std.proofs.Common.{◌≡◌, take}
use Rattle.sp_bank.specs.Separation.{differences_of}
use Rattle.sp_bank.proofs.certificate.has_differences_of.Given as goal

abbrev pub invariant-loop-u : goal.invariant-loop-u
invariant-loop-u l = take l.u l.differences ≡ take l.u (differences_of l.s l.group)
