use Rattle.std.proofs.Common.{◌≡◌, ◌-◌, length, []}
use Rattle.sp_reader.specs.Plain.{plain_exprs}
use Rattle.sp_reader.specs.ExpressionRules.{exprs_from, expr}
use Rattle.sp_reader.proofs.grammar.expression.Operands.exprs.Given as goal

abbrev pub invariant-loop-turn : goal.invariant-loop-turn
invariant-loop-turn g l =
    let inner = expr l.self.parser.source.now l.self.depth in
    exprs_from inner (length l.fn.tokens) [] l.fn.tokens ≡ exprs_from inner (l._turn-end - l._turn) (plain_exprs l.found.items) l.rest
