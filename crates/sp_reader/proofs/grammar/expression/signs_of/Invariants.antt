use Rattle.std.proofs.Common.{◌≡◌, ◌-◌, length, []}
use Rattle.sp_reader.specs.ExpressionRules.{signs_from}
use Rattle.sp_reader.proofs.grammar.expression.signs_of.Given as goal

abbrev pub invariant-loop-turn : goal.invariant-loop-turn
invariant-loop-turn l = signs_from (length l.fn.tokens) [] l.fn.tokens ≡ signs_from (l._turn-end - l._turn) l.found.items l.rest
