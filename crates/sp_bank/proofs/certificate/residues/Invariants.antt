use Rattle.std.proofs.Common.{◌≡◌, take}
use Rattle.sp_bank.specs.Separation.{differences_of}
use Rattle.sp_bank.proofs.certificate.residues.Given as goal

abbrev pub invariant-loop-u : goal.invariant-loop-u
invariant-loop-u l = l.made.items ≡ take l.u (differences_of l.s l.group)
