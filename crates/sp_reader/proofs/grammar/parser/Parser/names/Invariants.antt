use Rattle.std.proofs.Common.{◌≡◌, ◌-◌, length, []}
use Rattle.sp_reader.specs.PlainProgram.{plain_idents}
use Rattle.sp_reader.specs.SpanRules.{names_from}
use Rattle.sp_reader.proofs.grammar.parser.Parser.names.Given as goal

abbrev pub invariant-loop-turn : goal.invariant-loop-turn
invariant-loop-turn l = names_from l.self.source.now (length l.fn.tokens) [] l.fn.tokens ≡ names_from l.self.source.now (l._turn-end - l._turn) (plain_idents l.found.items) l.rest
