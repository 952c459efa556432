use Rattle.std.proofs.Common.{ap₂, ◌∙◌}
use Rattle.sp_words.specs.Words.{word_cast}
use Rattle.sp_counters.proofs.WideLemmas.{low_word}
use Rattle.sp_slices.proofs.wide.low.Goals as goal

pub returns-clause-word : goal.returns-clause-word
returns-clause-word c = λ s r t. c.in_ok-low.ensures.word s r t ∙ ap₂ (λ a b. word_cast a b (s.net t c.args.net)) c.int.ensures c.int-2.ensures ∙ low_word (s.net t c.args.net)
