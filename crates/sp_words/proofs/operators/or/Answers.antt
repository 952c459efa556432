use Rattle.sp_words.specs.Words.{word_or}
use Rattle.sp_words.proofs.LawLemmas.{or-GivesWords}
use Rattle.sp_words.proofs.operators.or.Goals as goal

pub returns-clause-is_word : goal.returns-clause-is_word
unfolding word_or
returns-clause-is_word c = or-GivesWords c.args.ty c.args.a c.args.b c.requires.left c.requires.right
