use Rattle.std.proofs.Common.{◌<◌, subst, arith}
use Rattle.sp_sim.proofs.ShiftLemmas.{shifted_is}
use Rattle.sp_sim.proofs.StepWords.{half_is}
use Rattle.sp_sim.proofs.step.shifted.Goals as goal

pub returns-then-by-width-clause-word : goal.returns-then-by-width-clause-word
returns-then-by-width-clause-word c =
    shifted_is c.args.ty c.args.a c.greatest-mask.result _ c.args.by c.requires.operand c.greatest-mask.ensures
    (half_is c.args.ty c.from.result c.width-then-by-width.result c.signed.result c.signed.ensures c.from.ensures c.width-then-by-width.ensures.value)
    (subst (λ w. c.args.by < w) c.width.ensures.value c.if-by-width.true) (omega (arith))
