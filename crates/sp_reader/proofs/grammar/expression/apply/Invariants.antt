use Rattle.std.proofs.Common.{◌≡◌, length}
use Rattle.sp_reader.specs.Plain.{plain_expr}
use Rattle.sp_reader.specs.ExpressionRules.{apply}
use Rattle.sp_reader.proofs.grammar.expression.apply.Given as goal

abbrev pub invariant-loop-sign : goal.invariant-loop-sign
invariant-loop-sign l = apply l.left.items (plain_expr l.whole) ≡ apply l.fn.signs.items (plain_expr l.fn.operand)

abbrev pub decreases-loop-sign : goal.decreases-loop-sign
decreases-loop-sign l = length l.left.items
