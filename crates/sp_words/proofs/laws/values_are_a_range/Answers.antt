use Rattle.sp_words.proofs.LawLemmas.{wrap-of-value, wrap-lt, value-in_range, value-wrap}
use Rattle.sp_words.proofs.laws.values_are_a_range.Goals as goal

pub returns-clause-in_range : goal.returns-clause-in_range
returns-clause-in_range c = value-in_range

pub returns-clause-each_word : goal.returns-clause-each_word
returns-clause-each_word c = wrap-of-value

pub returns-clause-each_value : goal.returns-clause-each_value
returns-clause-each_value c = value-wrap

pub returns-clause-wrapped : goal.returns-clause-wrapped
returns-clause-wrapped c = wrap-lt
