use Rattle.sp_words.specs.Words.{word_xor}
use Rattle.sp_words.proofs.LawLemmas.{xor-GivesWords}
use Rattle.sp_words.proofs.operators.xor.Goals as goal

pub returns-clause-is_word : goal.returns-clause-is_word
unfolding word_xor
returns-clause-is_word c = xor-GivesWords c.args.ty c.args.a c.args.b c.requires.left c.requires.right
