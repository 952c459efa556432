use Rattle.std.proofs.Common.{◌≡◌, ◌-◌, length, []}
use Rattle.sp_reader.specs.Plain.{plain_exprs}
use Rattle.sp_reader.specs.SpanRules.{whole_exprs_from}
use Rattle.sp_reader.proofs.grammar.parser.Parser.whole_exprs.Given as goal

abbrev pub invariant-loop-turn : goal.invariant-loop-turn
invariant-loop-turn l = whole_exprs_from l.self.source.now (length l.fn.tokens) [] l.fn.tokens ≡ whole_exprs_from l.self.source.now (l._turn-end - l._turn) (plain_exprs l.found.items) l.rest
