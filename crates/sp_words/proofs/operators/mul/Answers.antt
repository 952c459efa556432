use Rattle.std.proofs.Common.{subst, sym, ◌∙◌, ap, ◌*◌, ◌/◌, ◌%◌, ◌^◌}
use Rattle.sp_words.specs.Words.{IsWord}
use Rattle.sp_words.specs.Types.{width_of}
use Rattle.sp_words.proofs.LawLemmas.{mul-GivesWords}
use Rattle.sp_words.proofs.OperatorLemmas.{mul_is}
use Rattle.sp_words.proofs.operators.mul.Goals as goal

pub returns-clause-value : goal.returns-clause-value
returns-clause-value c =
    c.low_bits.ensures
    ∙ ap (λ f. c.extended.result * c.extended-2.result % 2 ^ 128 / 2 ^ f % 2 ^ width_of c.args.ty) c.frac.ensures.value
    ∙ mul_is c.args.ty c.args.a c.args.b c.extended.result c.extended-2.result c.extended.ensures c.extended-2.ensures

pub returns-clause-is_word : goal.returns-clause-is_word
returns-clause-is_word c = subst (IsWord c.args.ty) (sym (returns-clause-value c)) (mul-GivesWords c.args.ty c.args.a c.args.b c.requires.left c.requires.right)
