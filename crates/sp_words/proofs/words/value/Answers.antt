use Rattle.std.proofs.Common.{sym, ◌∙◌, arith}
use Rattle.std.proofs.lemmas.Int.{ints}
use Rattle.sp_words.proofs.OperatorLemmas.{value_negative, value_natural}
use Rattle.sp_words.proofs.words.value.Goals as goal

pub returns-then-is_negative : goal.returns-then-is_negative
returns-then-is_negative c =
    let e = value_negative c.args.ty c.args.word (sym c.is_negative.ensures ∙ c.if-is_negative.true) in
    omega (arith, ints, e)

pub returns-else-is_negative : goal.returns-else-is_negative
returns-else-is_negative c =
    let e = value_natural c.args.ty c.args.word (sym c.is_negative.ensures ∙ c.if-is_negative.false) in
    omega (arith, ints, e)
