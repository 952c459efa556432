use Rattle.std.proofs.Common.{sym, ◌∙◌, ap}
use Rattle.std.specs.Option.{option_copied}
use Rattle.sp_core.proofs.CounterLemmas.{lanes-last}
use Rattle.sp_core.proofs.parts.lanes_of.Goals as goal

pub returns-in-Some : goal.returns-in-Some
returns-in-Some c = sym (lanes-last c.args.counters.now c.in-Some.counter.now (sym c.last.ensures.value ∙ ap option_copied c.in-Some.is))
