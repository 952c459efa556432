use Rattle.std.proofs.Common.{refl}
use Rattle.sp_affine.proofs.Factors.{sum-two}
use Rattle.sp_affine.proofs.symbol.symbol_of_sum.Goals as goal

pub returns-in-Some-Some-clause-none : goal.returns-in-Some-Some-clause-none
returns-in-Some-Some-clause-none c =
    rw (c.in-Some-Some.is-0, c.in-Some-Some.is-1) (refl, sum-two c.in-Some-Some.field-0-0 c.in-Some-Some.field-0-1)
