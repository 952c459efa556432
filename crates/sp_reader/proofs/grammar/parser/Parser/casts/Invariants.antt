use Rattle.std.proofs.Common.{◌≡◌, ◌-◌, length}
use Rattle.sp_reader.specs.Plain.{plain_expr}
use Rattle.sp_reader.specs.ExpressionRules.{casts_from}
use Rattle.sp_reader.proofs.grammar.parser.Parser.casts.Given as goal

abbrev pub invariant-loop-turn : goal.invariant-loop-turn
invariant-loop-turn l = casts_from l.self.source.now l.at (length l.fn.tokens) (plain_expr l.fn.operand) l.fn.tokens ≡ casts_from l.self.source.now l.at (l._turn-end - l._turn) (plain_expr l.whole) l.rest
