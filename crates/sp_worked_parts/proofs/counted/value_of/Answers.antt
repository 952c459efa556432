use Rattle.std.proofs.Common.{length, sym, ◌∙◌}
use Rattle.sp_worked_parts.proofs.Doubling.{some_there}
use Rattle.sp_worked_parts.proofs.counted.value_of.Goals as goal

pub returns-else-is_empty : goal.returns-else-is_empty
returns-else-is_empty c = λ d values other. values 0 c.index-counters-0.result (some_there (length c.args.counters.now) (sym c.is_empty.ensures ∙ c.if-is_empty.false))
