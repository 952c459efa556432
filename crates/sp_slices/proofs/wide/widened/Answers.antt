use Rattle.std.proofs.Common.{ap, ap₂, ◌∙◌}
use Rattle.sp_words.specs.Words.{value_of, word_cast}
use Rattle.sp_counters.specs.Fits.{wide_type}
use Rattle.sp_counters.proofs.WideLemmas.{same_number}
use Rattle.sp_slices.proofs.wide.widened.Goals as goal

pub returns-clause-value : goal.returns-clause-value
returns-clause-value c = λ s r t l. ap (value_of wide_type) (c.in_ok-wide.ensures.word s r t ∙ ap₂ (λ a b. word_cast a b (s.net t c.args.net)) c.int.ensures c.wide.ensures) ∙ same_number (s.net t c.args.net) l
