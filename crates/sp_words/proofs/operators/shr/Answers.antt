use Rattle.std.proofs.Common.{subst, sym, ◌∙◌}
use Rattle.sp_words.specs.Words.{IsWord}
use Rattle.sp_words.proofs.LawLemmas.{shr-lt}
use Rattle.sp_words.proofs.OperatorLemmas.{shr_is}
use Rattle.sp_words.proofs.operators.shr.Goals as goal

pub returns-clause-value : goal.returns-clause-value
returns-clause-value c =
    c.low_bits.ensures ∙ shr_is c.args.ty c.args.a c.args.by c.extended.result c.requires.distance c.extended.ensures

pub returns-clause-is_word : goal.returns-clause-is_word
returns-clause-is_word c = subst (IsWord c.args.ty) (sym (returns-clause-value c)) (shr-lt c.args.ty c.args.a c.args.by)
