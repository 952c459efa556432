use Rattle.std.proofs.Common.{◌≡◌, ◌-◌, length}
use Rattle.sp_reader.specs.Plain.{plain_expr}
use Rattle.sp_reader.specs.ExpressionRules.{chain_from, expr}
use Rattle.sp_reader.proofs.grammar.expression.Operands.chain_from.Given as goal

abbrev pub invariant-loop-turn : goal.invariant-loop-turn
invariant-loop-turn g l =
    let source = l.self.parser.source.now in
    chain_from source (expr source l.self.depth) l.level l.turns (plain_expr l.fn.first) l.fn.tokens
    ≡ chain_from source (expr source l.self.depth) l.level (l.turns - l._turn) (plain_expr l.left) l.rest
