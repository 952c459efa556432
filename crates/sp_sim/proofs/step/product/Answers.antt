use Rattle.std.proofs.Common.{◌∙◌, sym}
use Rattle.sp_sim.proofs.StepWords.{product_is}
use Rattle.sp_sim.proofs.step.product.Goals as goal

pub returns-then-frac-eq0-clause-word : goal.returns-then-frac-eq0-clause-word
returns-then-frac-eq0-clause-word c =
    product_is c.args.ty c.args.a c.args.b c.greatest.result (c.wrapping_is_kept.ensures.product c.args.ty (sym c.frac.ensures.value ∙ c.if-frac-eq0.true)) c.requires.left c.requires.right c.greatest.ensures
