use Rattle.std.proofs.Common.{ap, ◌∙◌}
use Rattle.std.specs.Prelude.{bit_and}
use Rattle.sp_words.specs.Types.{width_of}
use Rattle.sp_words.proofs.OperatorLemmas.{mask_and}
use Rattle.sp_words.proofs.words.low_bits.Goals as goal

pub returns : goal.returns
returns c = ap (bit_and c.args.number) c.from.ensures ∙ mask_and c.args.number c.mask.result (width_of c.args.ty) c.mask.ensures
