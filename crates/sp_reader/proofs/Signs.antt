-- Operators before an operand, the innermost last.
use Rattle.std.proofs.Common.{◌≡◌, List, [], ◌∷◌, ◌++◌, refl, ap}
use Rattle.sp_reader.specs.declared.grammar.expression.Sign.{Sign}
use Rattle.sp_reader.specs.PlainTree.{PlainExpr, expr, one}
use Rattle.sp_reader.specs.ExpressionRules.{apply}

pub apply_last : (ss : List Sign) (s : Sign) (e : PlainExpr) → apply (ss ++ s ∷ []) e ≡ apply ss (expr s.at (one s.op e))
apply_last [] s e = refl
apply_last (t ∷ ss) s e = ap (λ inner. expr t.at (one t.op inner)) (apply_last ss s e)
