use Rattle.sp_sim.proofs.StepWords.{below_is, half_is}
use Rattle.sp_sim.proofs.step.is_below.Goals as goal

pub returns : goal.returns
returns c =
    below_is c.args.ty c.args.a c.args.b c.greatest-mask.result _ c.requires.left c.requires.right c.greatest-mask.ensures
    (half_is c.args.ty c.from.result c.width.result c.signed.result c.signed.ensures c.from.ensures c.width.ensures.value)
