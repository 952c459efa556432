use Rattle.std.proofs.Common.{subst, sym}
use Rattle.sp_words.specs.Words.{IsWord}
use Rattle.sp_words.proofs.LawLemmas.{sub-GivesWords}
use Rattle.sp_words.proofs.OperatorLemmas.{sub_is}
use Rattle.sp_words.proofs.operators.sub.Goals as goal

pub returns-clause-value : goal.returns-clause-value
returns-clause-value c = sub_is c.args.ty c.args.a c.args.b c.mask.result c.requires.left c.requires.right c.mask.ensures

pub returns-clause-is_word : goal.returns-clause-is_word
returns-clause-is_word c = subst (IsWord c.args.ty) (sym (returns-clause-value c)) (sub-GivesWords c.args.ty c.args.a c.args.b c.requires.left c.requires.right)
