use Rattle.sp_words.specs.Types.{width_of}
use Rattle.sp_words.proofs.OperatorLemmas.{mask_is, width-le}
use Rattle.sp_sim.proofs.step.greatest.Goals as goal

pub returns : goal.returns
returns c = mask_is (width_of c.args.ty) c.width.result c.width.ensures.value (width-le c.args.ty)
