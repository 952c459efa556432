use Rattle.std.proofs.Common.{rules, ◌≡◌}
use Rattle.sp_reader.specs.declared.syntax.statement.SynStmtKind.{the_lemmas}
use Rattle.sp_reader.proofs.Rows.{body_is}
use Rattle.sp_reader.proofs.grammar.statement.combined.Goals as goal

pub returns-in-Reduce : goal.returns-in-Reduce
returns-in-Reduce c = search (rules, the_lemmas, body_is)

pub returns-in-Fold : goal.returns-in-Fold
returns-in-Fold c = search (rules, the_lemmas, body_is)

pub returns-in-MemReduce : goal.returns-in-MemReduce
returns-in-MemReduce c = search (rules, the_lemmas, body_is)
