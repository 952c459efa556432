-- Which memories an expression or a statement names: whether all of them pass a test.
use Rattle.std.specs.Prelude.{ℕ, Bool, IsTrue, List, [], ◌∷◌}
use Rattle.sp_tree.specs.PlainExpression.{PlainExpr, PlainExprKind, PlainExprs, expr, literal, counter, value, get_reg, get_arg, get_sram, get_line, deq, one, two, shift, mux, cast, no_expr, more_expr}
use Rattle.sp_tree.specs.PlainStatement.{PlainSpan, single, range, PlainCounter, PlainStmt, PlainStmtKind, PlainStmts, stmt, declare, name, set_reg, set_out, set_sram, enq, load_sram, load_line, store, gather, scatter, block, foreach, reduce, mem_reduce, fsm, branch, no_stmt, more_stmt}

module _ (is : ℕ → Bool) where
  abbrev mutual
    pub Names : PlainExpr → Type 0
    Names (expr place ty kind) = KindNames kind

    pub KindNames : PlainExprKind → Type 0
    KindNames (literal w) = Unit {0}
    KindNames (counter c) = Unit {0}
    KindNames (value v) = Unit {0}
    KindNames (get_reg m) = IsTrue (is m)
    KindNames (get_arg m) = IsTrue (is m)
    KindNames (get_sram m indices) = IsTrue (is m) × AllName indices
    KindNames (get_line m row column) = IsTrue (is m) × Names row × Names column
    KindNames (deq m) = IsTrue (is m)
    KindNames (one op a) = Names a
    KindNames (two op a b) = Names a × Names b
    KindNames (shift left a by) = Names a
    KindNames (mux c a b) = Names c × Names a × Names b
    KindNames (cast a) = Names a

    pub AllName : PlainExprs → Type 0
    AllName no_expr = Unit {0}
    AllName (more_expr e rest) = Names e × AllName rest

  abbrev pub SpansName : List PlainSpan → Type 0
  SpansName [] = Unit {0}
  SpansName (single e ∷ spans) = Names e × SpansName spans
  SpansName (range a b par ∷ spans) = Names a × Names b × SpansName spans

  abbrev pub CountersName : List PlainCounter → Type 0
  CountersName [] = Unit {0}
  CountersName (c ∷ counters) = Names c.from × Names c.until × CountersName counters

  abbrev mutual
    pub StmtNames : PlainStmt → Type 0
    StmtNames (stmt place kind) = StmtKindNames kind

    pub StmtKindNames : PlainStmtKind → Type 0
    StmtKindNames (declare m) = IsTrue (is m)
    StmtKindNames (name v e) = Names e
    StmtKindNames (set_reg m e) = IsTrue (is m) × Names e
    StmtKindNames (set_out m e) = IsTrue (is m) × Names e
    StmtKindNames (set_sram m indices e) = IsTrue (is m) × AllName indices × Names e
    StmtKindNames (enq m e) = IsTrue (is m) × Names e
    StmtKindNames (load_sram sram dram spans) = IsTrue (is sram) × IsTrue (is dram) × SpansName spans
    StmtKindNames (load_line line dram spans) = IsTrue (is line) × IsTrue (is dram) × SpansName spans
    StmtKindNames (store dram spans sram) = IsTrue (is sram) × IsTrue (is dram) × SpansName spans
    StmtKindNames (gather sram dram places count) = IsTrue (is sram) × IsTrue (is dram) × IsTrue (is places) × Names count
    StmtKindNames (scatter dram places count sram) = IsTrue (is dram) × IsTrue (is places) × Names count × IsTrue (is sram)
    StmtKindNames (block style body) = BodyNames body
    StmtKindNames (foreach style counters body) = CountersName counters × BodyNames body
    StmtKindNames (reduce style fold acc counters body e comb) = IsTrue (is acc) × CountersName counters × BodyNames body × Names e
    StmtKindNames (mem_reduce style acc counters body part comb) = IsTrue (is acc) × IsTrue (is part) × CountersName counters × BodyNames body
    StmtKindNames (fsm start tested test state body last next) = Names start × Names test × BodyNames body × Names next
    StmtKindNames (branch test first second) = Names test × BodyNames first × BodyNames second

    pub BodyNames : PlainStmts → Type 0
    BodyNames no_stmt = Unit {0}
    BodyNames (more_stmt s rest) = StmtNames s × BodyNames rest
