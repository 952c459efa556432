use Rattle.sp_typed.proofs.ExpressionLemmas.{expr_right, type_is}
use Rattle.sp_typed.proofs.laws.expressions_are_typed.Goals as goal

pub returns : goal.returns
returns c = λ p scope here seen ask ty e agree same want read none.
    (expr_right p scope here seen agree same ask ty e want read none, type_is here ty e)
