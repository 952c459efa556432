use Rattle.sp_typed.specs.Expressions.{typed}
use Rattle.sp_typed.proofs.ExpressionLemmas.{expr_right, type_is}
use Rattle.sp_typed.proofs.StillLemmas.{takes_none, names_none}
use Rattle.sp_typed.proofs.laws.still_expressions_take_no_word.Goals as goal

pub returns : goal.returns
returns c = λ p scope here seen ask ty e agree same want still read none.
    let right = expr_right p scope here seen agree same ask ty e want read none in
    ((right, type_is here ty e), names_none p scope (typed here ty e) right (takes_none here seen ask ty e still none))
