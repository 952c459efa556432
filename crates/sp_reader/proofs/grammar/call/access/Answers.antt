use Rattle.std.proofs.Common.{rules, ◌≡◌}
use Rattle.sp_reader.specs.declared.syntax.expression.SynExprKind.{the_lemmas}
use Rattle.sp_reader.proofs.Rows.{row_is}
use Rattle.sp_reader.proofs.grammar.call.access.Goals as goal

pub returns : goal.returns
returns c = search (rules, the_lemmas, row_is)
