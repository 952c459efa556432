use Rattle.std.proofs.Common.{subst, sym, ◌∙◌, ap, ◌*◌, ◌%◌, ◌^◌}
use Rattle.sp_words.specs.Words.{IsWord}
use Rattle.sp_words.specs.Types.{width_of}
use Rattle.sp_words.proofs.LawLemmas.{shl-lt}
use Rattle.sp_words.proofs.OperatorLemmas.{shl_is}
use Rattle.sp_words.proofs.operators.shl.Goals as goal

pub returns-clause-value : goal.returns-clause-value
returns-clause-value c =
    c.low_bits.ensures
    ∙ ap (λ n. n * 2 ^ c.args.by % 2 ^ 128 % 2 ^ width_of c.args.ty) c.from.ensures
    ∙ shl_is c.args.ty c.args.a c.args.by c.requires.operand

pub returns-clause-is_word : goal.returns-clause-is_word
returns-clause-is_word c = subst (IsWord c.args.ty) (sym (returns-clause-value c)) (shl-lt c.args.ty c.args.a c.args.by)
