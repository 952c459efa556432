-- Each memory that a program names passes the test that all pass.
use Rattle.std.proofs.Common.{ℕ, Bool, true, List, [], ◌∷◌, refl}
use Rattle.sp_tree.specs.Footprint.{Names, KindNames, AllName, SpansName, CountersName, StmtNames, StmtKindNames, BodyNames}
use Rattle.sp_tree.specs.PlainExpression.{PlainExpr, PlainExprKind, PlainExprs, expr, literal, counter, value, get_reg, get_arg, get_sram, get_line, deq, one, two, shift, mux, cast, no_expr, more_expr}
use Rattle.sp_tree.specs.PlainStatement.{PlainSpan, single, range, PlainCounter, PlainStmt, PlainStmtKind, PlainStmts, stmt, declare, name, set_reg, set_out, set_sram, enq, load_sram, load_line, store, gather, scatter, block, foreach, reduce, mem_reduce, fsm, branch, no_stmt, more_stmt}

abbrev pub all : ℕ → Bool
all m = true

mutual
  pub any_expr : (e : PlainExpr) → Names all e
  any_expr (expr place ty kind) = any_kind kind

  pub any_kind : (k : PlainExprKind) → KindNames all k
  any_kind (literal w) = tt
  any_kind (counter c) = tt
  any_kind (value v) = tt
  any_kind (get_reg m) = refl
  any_kind (get_arg m) = refl
  any_kind (get_sram m indices) = (refl, any_exprs indices)
  any_kind (get_line m row column) = (refl, any_expr row, any_expr column)
  any_kind (deq m) = refl
  any_kind (one op a) = any_expr a
  any_kind (two op a b) = (any_expr a, any_expr b)
  any_kind (shift left a by) = any_expr a
  any_kind (mux c a b) = (any_expr c, any_expr a, any_expr b)
  any_kind (cast a) = any_expr a

  pub any_exprs : (es : PlainExprs) → AllName all es
  any_exprs no_expr = tt
  any_exprs (more_expr e rest) = (any_expr e, any_exprs rest)

any_spans : (spans : List PlainSpan) → SpansName all spans
any_spans [] = tt
any_spans (single e ∷ spans) = (any_expr e, any_spans spans)
any_spans (range a b par ∷ spans) = (any_expr a, any_expr b, any_spans spans)

any_counters : (counters : List PlainCounter) → CountersName all counters
any_counters [] = tt
any_counters (c ∷ counters) = (any_expr c.from, any_expr c.until, any_counters counters)

mutual
  pub any_stmt : (s : PlainStmt) → StmtNames all s
  any_stmt (stmt place kind) = any_stmt_kind kind

  pub any_stmt_kind : (k : PlainStmtKind) → StmtKindNames all k
  any_stmt_kind (declare m) = refl
  any_stmt_kind (name v e) = any_expr e
  any_stmt_kind (set_reg m e) = (refl, any_expr e)
  any_stmt_kind (set_out m e) = (refl, any_expr e)
  any_stmt_kind (set_sram m indices e) = (refl, any_exprs indices, any_expr e)
  any_stmt_kind (enq m e) = (refl, any_expr e)
  any_stmt_kind (load_sram sram dram spans) = (refl, refl, any_spans spans)
  any_stmt_kind (load_line line dram spans) = (refl, refl, any_spans spans)
  any_stmt_kind (store dram spans sram) = (refl, refl, any_spans spans)
  any_stmt_kind (gather sram dram places count) = (refl, refl, refl, any_expr count)
  any_stmt_kind (scatter dram places count sram) = (refl, refl, any_expr count, refl)
  any_stmt_kind (block style body) = any_body body
  any_stmt_kind (foreach style counters body) = (any_counters counters, any_body body)
  any_stmt_kind (reduce style fold acc counters body e comb) = (refl, any_counters counters, any_body body, any_expr e)
  any_stmt_kind (mem_reduce style acc counters body part comb) = (refl, refl, any_counters counters, any_body body)
  any_stmt_kind (fsm start tested test state body last next) = (any_expr start, any_expr test, any_body body, any_expr next)
  any_stmt_kind (branch test first second) = (any_expr test, any_body first, any_body second)

  pub any_body : (b : PlainStmts) → BodyNames all b
  any_body no_stmt = tt
  any_body (more_stmt s rest) = (any_stmt s, any_body rest)
