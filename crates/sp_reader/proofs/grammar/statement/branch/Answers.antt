use Rattle.std.proofs.Common.{rules, ◌≡◌}
use Rattle.sp_reader.specs.declared.syntax.statement.SynStmtKind.{the_lemmas}
use Rattle.sp_reader.proofs.Rows.{body_is}
use Rattle.sp_reader.proofs.grammar.statement.branch.Goals as goal

pub returns : goal.returns
returns c = search (rules, the_lemmas, body_is)
