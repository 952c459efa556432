use Rattle.sp_words.specs.Types.{int_type}
use Rattle.sp_fitting.proofs.Symbols.{words_fit, symbols_fit}
use Rattle.sp_fitting.proofs.laws.stores_fit.Goals as goal

pub returns-clause-words : goal.returns-clause-words
returns-clause-words c = words_fit

pub returns-clause-symbols : goal.returns-clause-symbols
returns-clause-symbols c = symbols_fit (c.values_are_a_range.ensures.in_range int_type)
