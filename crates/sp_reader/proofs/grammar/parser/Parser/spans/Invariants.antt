use Rattle.std.proofs.Common.{◌≡◌, ◌-◌, length, []}
use Rattle.sp_reader.specs.PlainProgram.{plain_spans}
use Rattle.sp_reader.specs.SpanRules.{spans_from}
use Rattle.sp_reader.proofs.grammar.parser.Parser.spans.Given as goal

abbrev pub invariant-loop-turn : goal.invariant-loop-turn
invariant-loop-turn l = spans_from l.self.source.now (length l.fn.tokens) [] l.fn.tokens ≡ spans_from l.self.source.now (l._turn-end - l._turn) (plain_spans l.found.items) l.rest
