-- Which values cross: they are used in another stage than the one that computes them. A use of a value that stands for
-- another one is a use of that one.
use Rattle.std.specs.Prelude.{ℕ, ◌==◌, Bool, true, false, ◌||◌, ◌&&◌, not, List, [], ◌∷◌, Some, None}
use Rattle.sp_tree.specs.PlainExpression.{PlainExpr, PlainExprKind, PlainExprs, expr, literal, counter, value, get_reg, get_arg, get_sram, get_line, deq, one, two, shift, mux, cast, no_expr, more_expr}
use Rattle.sp_tree.specs.PlainStatement.{PlainSpan, single, range, PlainCounter, PlainStmtKind, PlainStmts, stmt, declare, name, set_reg, set_out, set_sram, enq, load_sram, load_line, store, gather, scatter, block, foreach, reduce, mem_reduce, fsm, branch, no_stmt, more_stmt}
use Rattle.sp_tree.specs.Tallies.{primitive}

-- whether an expression uses a value that passes a test
abbrev mutual
  pub uses : (ℕ → Bool) → PlainExpr → Bool
  uses is (expr place ty kind) = kind_uses is kind

  pub kind_uses : (ℕ → Bool) → PlainExprKind → Bool
  kind_uses is (value v) = is v
  kind_uses is (get_sram m indices) = some_use is indices
  kind_uses is (get_line m row column) = uses is row || uses is column
  kind_uses is (one op a) = uses is a
  kind_uses is (two op a b) = uses is a || uses is b
  kind_uses is (shift left a by) = uses is a
  kind_uses is (mux c a b) = uses is c || uses is a || uses is b
  kind_uses is (cast a) = uses is a
  kind_uses is (literal w) = false
  kind_uses is (counter c) = false
  kind_uses is (get_reg m) = false
  kind_uses is (get_arg m) = false
  kind_uses is (deq m) = false

  pub some_use : (ℕ → Bool) → PlainExprs → Bool
  some_use is no_expr = false
  some_use is (more_expr e rest) = uses is e || some_use is rest

abbrev pub counters_use : (ℕ → Bool) → List PlainCounter → Bool
counters_use is [] = false
counters_use is (c ∷ counters) = uses is c.from || uses is c.until || counters_use is counters

abbrev pub spans_use : (ℕ → Bool) → List PlainSpan → Bool
spans_use is [] = false
spans_use is (single e ∷ spans) = uses is e || spans_use is spans
spans_use is (range a b par ∷ spans) = uses is a || uses is b || spans_use is spans

-- the name of a value is the same value
abbrev pub is_bare : PlainExpr → Bool
is_bare (expr place ty (literal w)) = true
is_bare (expr place ty (counter c)) = true
is_bare (expr place ty (value v)) = true
is_bare _ = false

-- after a statement, which may give another name to a value that passes the test
abbrev pub renamed : (ℕ → Bool) → PlainStmtKind → ℕ → Bool
renamed is (name w (expr place ty (value v))) u = (is v && u == w) || is u
renamed is _ u = is u

-- whether statements use such a value
abbrev mutual
  pub are_using : (ℕ → Bool) → PlainStmts → Bool
  are_using is no_stmt = false
  are_using is (more_stmt (stmt place kind) rest) = is_using is kind || are_using (renamed is kind) rest

  pub is_using : (ℕ → Bool) → PlainStmtKind → Bool
  is_using is (declare m) = false
  is_using is (name v e) = not (is_bare e) && uses is e
  is_using is (set_reg m e) = uses is e
  is_using is (set_out m e) = uses is e
  is_using is (set_sram m indices e) = some_use is indices || uses is e
  is_using is (enq m e) = uses is e
  is_using is (load_sram sram dram spans) = spans_use is spans
  is_using is (load_line line dram spans) = spans_use is spans
  is_using is (store dram spans sram) = spans_use is spans
  is_using is (gather sram dram places n) = uses is n
  is_using is (scatter dram places n sram) = uses is n
  is_using is (block style body) = are_using is body
  is_using is (foreach style counters body) = counters_use is counters || are_using is body
  is_using is (reduce style fold acc counters body e comb) = counters_use is counters || are_using is body || uses (names_after is body) e
  is_using is (mem_reduce style acc counters body part comb) = counters_use is counters || are_using is body
  is_using is (fsm start tested test state body last next) = uses is start || uses is test || are_using is body || uses is next
  is_using is (branch test first second) = uses is test || are_using is first || are_using is second

  -- which values pass the test at the end of a body
  pub names_after : (ℕ → Bool) → PlainStmts → ℕ → Bool
  names_after is no_stmt = is
  names_after is (more_stmt (stmt place kind) rest) = names_after (renamed is kind) rest

-- how the stages of a body end: with nothing more; or with a word that is computed in the last run of its statements, or
-- in the combination, which is a stage of its own
pub data Ending : Type 0 where
  no_more : Ending
  in_last_run : PlainExpr → Ending
  in_combination : PlainExpr → Ending

-- whether a later stage uses such a value; as long as only statements come that are neither controllers nor transfers, the
-- stage is the same
abbrev pub ending_uses : (ℕ → Bool) → Ending → Bool
ending_uses is no_more = false
ending_uses is (in_last_run e) = uses is e
ending_uses is (in_combination e) = uses is e

abbrev pub is_apart : (ℕ → Bool) → Ending → Bool
is_apart is (in_combination e) = uses is e
is_apart is _ = false

abbrev pub is_used_later : (ℕ → Bool) → PlainStmts → Ending → Bool
is_used_later is no_stmt ending = is_apart is ending
is_used_later is (more_stmt (stmt place kind) rest) ending = elim (primitive kind) [
  | Some t ↦ is_used_later (renamed is kind) rest ending
  | None ↦ is_using is kind || are_using is rest || ending_uses (names_after is rest) ending
]

-- whether a value crosses, by what stands after it in its body
abbrev pub does_cross : ℕ → PlainStmts → Ending → Bool
does_cross v rest ending = is_used_later (λ u. u == v) rest ending
