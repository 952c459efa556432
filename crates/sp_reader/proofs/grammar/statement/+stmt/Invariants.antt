use Rattle.sp_reader.proofs.grammar.statement.+stmt.Given as goal

abbrev pub decreases-stmt : goal.decreases-stmt
decreases-stmt l = l.depth
