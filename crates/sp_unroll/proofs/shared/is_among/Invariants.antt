use Rattle.std.proofs.Common.{◌≡◌, drop}
use Rattle.sp_core.specs.Declarations.{is_among}
use Rattle.sp_unroll.proofs.shared.is_among.Given as goal

abbrev pub invariant-loop-m : goal.invariant-loop-m
invariant-loop-m l = is_among l.n (drop l.m-index l.numbers) ≡ is_among l.n l.numbers
