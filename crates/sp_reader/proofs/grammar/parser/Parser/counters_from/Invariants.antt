use Rattle.std.proofs.Common.{◌≡◌, ◌-◌, length, []}
use Rattle.sp_reader.specs.PlainProgram.{plain_counters}
use Rattle.sp_reader.specs.SpanRules.{counters_from}
use Rattle.sp_reader.proofs.grammar.parser.Parser.counters_from.Given as goal

abbrev pub invariant-loop-turn : goal.invariant-loop-turn
invariant-loop-turn l = counters_from l.self.source.now l.turns (plain_counters l.fn.first.items) l.fn.tokens ≡ counters_from l.self.source.now (l.turns - l._turn) (plain_counters l.found.items) l.rest
