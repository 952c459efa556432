use Rattle.sp_words.specs.Words.{word_and}
use Rattle.sp_words.proofs.LawLemmas.{and-GivesWords}
use Rattle.sp_words.proofs.operators.and.Goals as goal

pub returns-clause-is_word : goal.returns-clause-is_word
unfolding word_and
returns-clause-is_word c = and-GivesWords c.args.ty c.args.a c.args.b c.requires.left c.requires.right
