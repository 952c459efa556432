use Rattle.sp_reader.proofs.grammar.expression.+expr.Given as goal

abbrev pub decreases-expr : goal.decreases-expr
decreases-expr l = l.depth
