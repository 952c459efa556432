-- The plain value of a tree, by its parts.
use Rattle.std.proofs.Common.{rules, ◌≡◌, ℕ, suc, ◌+◌, List, [], ◌∷◌, length, Vec, Global, refl, ap}
use native.Mathlib.Numerals.{unary_clauses}
use Rattle.sp_reader.specs.declared.syntax.expression.Ident.{Ident}
use Rattle.sp_reader.specs.declared.syntax.expression.SynExpr.{SynExpr}
use Rattle.sp_reader.specs.declared.syntax.expression.SynExprKind.{At, the_lemmas}
use Rattle.sp_reader.specs.Plain.{plain_ident, plain_kind, plain_exprs}
use Rattle.sp_reader.specs.PlainTree.{PlainExpr, row, access}
use Rattle.sp_reader.proofs.Rows.{row_is, body_is}
use Rattle.sp_words.specs.declared.kind.Style.{Style}
use Rattle.sp_reader.specs.declared.syntax.statement.SynComb.{SynComb}
use Rattle.sp_reader.specs.declared.syntax.statement.SynLoop.{SynLoop, out-SynLoop}
use Rattle.sp_reader.specs.declared.syntax.statement.SynStmt.{SynStmt}
use Rattle.sp_reader.specs.declared.syntax.statement.SynStmtKind.{Block, Foreach, Reduce, Fold, MemReduce, Fsm, If, the_lemmas as the_statements}
use Rattle.sp_reader.specs.Plain.{plain_expr}
use Rattle.sp_reader.specs.PlainProgram.{plain_stmt_kind, plain_stmts, plain_counters, plain_idents, plain_comb}
use Rattle.sp_reader.specs.PlainStatement.{PlainHead, body, block, foreach, reduce, fold, mem_reduce, fsm, branch}
use Rattle.sp_types.specs.Expressions.{index_count}

pub access_of : (i : Ident) (indices : Vec SynExpr Global) → plain_kind (At i indices) ≡ access (plain_ident i) (row (plain_exprs indices.items))
access_of i indices = search (rules, the_lemmas, row_is)

pub count_of_row : (es : List SynExpr) → index_count (row (plain_exprs es)) ≡ length es
count_of_row [] = refl
count_of_row (e ∷ es) = simp unary_clauses (ap suc (count_of_row es))

-- how a loop begins
abbrev pub head_of : SynLoop → PlainHead
head_of l = record { style = (out-SynLoop l).style; counters = plain_counters (out-SynLoop l).counters.items; binds = plain_idents (out-SynLoop l).binds.items }

pub block_of : (style : Style) (ss : Vec SynStmt Global) → plain_stmt_kind (Block style ss) ≡ block style (body (plain_stmts ss.items))
block_of style ss = search (rules, the_statements, body_is)

pub foreach_of : (l : SynLoop) → plain_stmt_kind (Foreach l) ≡ foreach (head_of l) (body (plain_stmts (out-SynLoop l).body.items))
foreach_of l = search (rules, the_statements, body_is)

pub reduce_of : (l : SynLoop) (i : Ident) (e : SynExpr) (c : SynComb) → plain_stmt_kind (Reduce l i e c) ≡ reduce (head_of l) (body (plain_stmts (out-SynLoop l).body.items)) (plain_ident i) (plain_expr e) (plain_comb c)
reduce_of l i e c = search (rules, the_statements, body_is)

pub fold_of : (l : SynLoop) (i : Ident) (e : SynExpr) (c : SynComb) → plain_stmt_kind (Fold l i e c) ≡ fold (head_of l) (body (plain_stmts (out-SynLoop l).body.items)) (plain_ident i) (plain_expr e) (plain_comb c)
fold_of l i e c = search (rules, the_statements, body_is)

pub mem_reduce_of : (l : SynLoop) (i : Ident) (e : SynExpr) (c : SynComb) → plain_stmt_kind (MemReduce l i e c) ≡ mem_reduce (head_of l) (body (plain_stmts (out-SynLoop l).body.items)) (plain_ident i) (plain_expr e) (plain_comb c)
mem_reduce_of l i e c = search (rules, the_statements, body_is)

pub fsm_of : (start : SynExpr) (tested : Ident) (test : SynExpr) (now : Ident) (ss : Vec SynStmt Global) (last : Ident) (next : SynExpr)
    → plain_stmt_kind (Fsm start tested test now ss last next) ≡ fsm (plain_expr start) (plain_ident tested) (plain_expr test) (plain_ident now) (body (plain_stmts ss.items)) (plain_ident last) (plain_expr next)
fsm_of start tested test now ss last next = search (rules, the_statements, body_is)

pub branch_of : (test : SynExpr) (first second : Vec SynStmt Global) → plain_stmt_kind (If test first second) ≡ branch (plain_expr test) (body (plain_stmts first.items)) (body (plain_stmts second.items))
branch_of test first second = search (rules, the_statements, body_is)
