use Rattle.sp_typed.proofs.SpanLemmas.{counters_right}
use Rattle.sp_typed.proofs.laws.counters_are_typed.Goals as goal

pub returns : goal.returns
returns c = λ p scope here seen n counters agree same read none. counters_right p scope here seen agree same n counters read none
