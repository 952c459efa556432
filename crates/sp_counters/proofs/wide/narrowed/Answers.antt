use Rattle.std.proofs.Common.{ap₂, ◌∙◌}
use Rattle.sp_words.specs.Words.{word_cast}
use Rattle.sp_counters.proofs.WideLemmas.{narrow_word}
use Rattle.sp_counters.proofs.wide.narrowed.Goals as goal

pub returns-clause-word : goal.returns-clause-word
returns-clause-word c = λ s r t. c.in_ok-narrow.ensures.word s r t ∙ ap₂ (λ a b. word_cast a b (s.net t c.args.net)) c.wide.ensures c.int.ensures ∙ narrow_word (s.net t c.args.net)
