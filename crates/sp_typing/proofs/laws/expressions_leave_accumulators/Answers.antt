use Rattle.sp_typing.proofs.AloneLemmas.{expr_alone}
use Rattle.sp_typing.proofs.laws.expressions_leave_accumulators.Goals as goal

pub returns : goal.returns
returns c = λ p scope here seen ask ty e at read none acc around. expr_alone p scope here seen at acc around ask ty e read none
