use Rattle.std.proofs.Common.{subst, sym, ◌∙◌, ap, ◌*◌, ◌/◌, ◌%◌, ◌^◌}
use Rattle.sp_words.specs.Words.{IsWord}
use Rattle.sp_words.specs.Types.{width_of, frac_of}
use Rattle.sp_words.proofs.LawLemmas.{cast-lt}
use Rattle.sp_words.proofs.OperatorLemmas.{cast_is}
use Rattle.sp_words.proofs.operators.cast.Goals as goal

pub returns-clause-value : goal.returns-clause-value
returns-clause-value c =
    c.low_bits.ensures
    ∙ ap (λ f. c.extended.result * 2 ^ f % 2 ^ 128 / 2 ^ c.frac-2.result % 2 ^ width_of c.args.to) c.frac.ensures.value
    ∙ ap (λ f. c.extended.result * 2 ^ frac_of c.args.to % 2 ^ 128 / 2 ^ f % 2 ^ width_of c.args.to) c.frac-2.ensures.value
    ∙ cast_is c.args.from c.args.to c.args.a c.extended.result c.extended.ensures

pub returns-clause-is_word : goal.returns-clause-is_word
returns-clause-is_word c = subst (IsWord c.args.to) (sym (returns-clause-value c)) (cast-lt c.args.from c.args.to c.args.a)
