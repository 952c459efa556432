use Rattle.sp_typed.proofs.SpanLemmas.{spans_right}
use Rattle.sp_typed.proofs.laws.spans_are_typed.Goals as goal

pub returns : goal.returns
returns c = λ p scope here seen lanes spans agree same read none. spans_right p scope here seen agree same lanes spans read none
