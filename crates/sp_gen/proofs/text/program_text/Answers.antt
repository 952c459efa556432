use Rattle.std.proofs.Common.{◌∙◌, ap}
use Rattle.sp_gen.specs.Draws.{numbers_of}
use Rattle.sp_gen.specs.Text.{text_of}
use Rattle.sp_gen.proofs.LengthLemmas.{short_text}
use Rattle.sp_gen.proofs.text.program_text.Goals as goal

pub returns-clause-short : goal.returns-clause-short
returns-clause-short c = short_text c.args.number _ (c.in_ok-text.ensures ∙ ap text_of (c.numbers.ensures.numbers ∙ ap numbers_of c.from.ensures))
