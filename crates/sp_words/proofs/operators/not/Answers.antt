use Rattle.std.proofs.Common.{subst, sym}
use Rattle.sp_words.specs.Words.{IsWord}
use Rattle.sp_words.proofs.LawLemmas.{not-lt}
use Rattle.sp_words.proofs.OperatorLemmas.{not_is}
use Rattle.sp_words.proofs.operators.not.Goals as goal

pub returns-clause-value : goal.returns-clause-value
returns-clause-value c = not_is c.args.ty c.args.a c.mask.result c.requires c.mask.ensures

pub returns-clause-is_word : goal.returns-clause-is_word
returns-clause-is_word c = subst (IsWord c.args.ty) (sym (returns-clause-value c)) (not-lt c.args.ty c.args.a)
