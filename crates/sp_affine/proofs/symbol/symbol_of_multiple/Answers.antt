use Rattle.std.proofs.Common.{refl, ap, of_z}
use Rattle.std.specs.Int.{w64}
use Rattle.sp_affine.proofs.Factors.{multiple-other}
use Rattle.sp_affine.proofs.symbol.symbol_of_multiple.Goals as goal

pub returns-in-Some-default-clause-none : goal.returns-in-Some-default-clause-none
returns-in-Some-default-clause-none c =
    rw c.in-Some-default.is-0 (
      refl,
      multiple-other c.in-Some-default.field-0-0 c.args.by
          (λ e. c.in-Some-default.is-1.0.1 (ap (of_z w64) e)) (λ e. c.in-Some-default.is-1.1 (ap (of_z w64) e)),
    )
