-- Expressions and statements in a list, as plain values.
use Rattle.std.proofs.Common.{◌≡◌, List, [], ◌∷◌, refl, ap}
use Rattle.sp_reader.specs.declared.syntax.expression.SynExprKind.{Row_of-SynExpr, end_of-SynExpr, more_of-SynExpr, items-the_row-SynExpr}
use Rattle.sp_reader.specs.declared.syntax.statement.SynStmtKind.{Row_of-SynStmt, end_of-SynStmt, more_of-SynStmt, items-the_row-SynStmt}
use Rattle.sp_reader.specs.PlainStatement.{body, stmt, more_stmt}
use Rattle.sp_reader.specs.PlainProgram.{plain_stmt_kind, plain_body, plain_stmts}
use Rattle.sp_reader.specs.PlainTree.{row, expr, more_expr}
use Rattle.sp_reader.specs.Plain.{plain_kind, plain_row, plain_exprs}

pub row_is : (n : _) (k : Row_of-SynExpr n) → plain_row k ≡ row (plain_exprs (items-the_row-SynExpr n k))
row_is _ end_of-SynExpr = refl
row_is _ (more_of-SynExpr at kind rest) = ap (more_expr (expr at (plain_kind kind))) (row_is _ rest)

pub body_is : (n : _) (k : Row_of-SynStmt n) → plain_body k ≡ body (plain_stmts (items-the_row-SynStmt n k))
body_is _ end_of-SynStmt = refl
body_is _ (more_of-SynStmt at kind rest) = ap (more_stmt (stmt at (plain_stmt_kind kind))) (body_is _ rest)
