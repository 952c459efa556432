-- The plain value of each statement as it is declared, and of a program.
use Rattle.std.specs.Prelude.{List, [], ◌∷◌, map}
use Rattle.sp_tree.specs.declared.statement.Counter.{Counter}
use Rattle.sp_tree.specs.declared.statement.Span.{Span}
use Rattle.sp_tree.specs.declared.statement.Span.TheVariants.{One, Range}
use Rattle.sp_tree.specs.declared.statement.Stmt.{Stmt}
use Rattle.sp_tree.specs.declared.statement.Ctl.{Ctl, Block', Foreach', Reduce', MemReduce', Fsm', Branch', Row_of-Stmt, end_of-Stmt, more_of-Stmt}
use Rattle.sp_tree.specs.declared.statement.StmtKind.{StmtKind, Declare, Let, SetReg, SetOut, SetSram, Enq, LoadSram, LoadLine, Store, Gather, Scatter, Control'}
use Rattle.sp_tree.specs.Plain.{plain_expr, plain_exprs}
use Rattle.sp_tree.specs.PlainStatement.{PlainSpan, single, range, PlainCounter, PlainStmt, PlainStmtKind, PlainStmts, stmt, declare, name, set_reg, set_out, set_sram, enq, load_sram, load_line, store, gather, scatter, block, foreach, reduce, mem_reduce, fsm, branch, no_stmt, more_stmt}

abbrev pub plain_span : Span → PlainSpan
plain_span (One e) = single (plain_expr e)
plain_span (Range a b par) = range (plain_expr a) (plain_expr b) par

abbrev pub plain_counter : Counter → PlainCounter
plain_counter c = record { number = c.id; from = plain_expr c.from; until = plain_expr c.until; step = c.by; par = c.par }

abbrev mutual
  pub plain_stmt_kind : StmtKind → PlainStmtKind
  plain_stmt_kind (Declare m) = declare m
  plain_stmt_kind (Let v e) = name v (plain_expr e)
  plain_stmt_kind (SetReg m e) = set_reg m (plain_expr e)
  plain_stmt_kind (SetOut m e) = set_out m (plain_expr e)
  plain_stmt_kind (SetSram m indices e) = set_sram m (plain_exprs indices.items) (plain_expr e)
  plain_stmt_kind (Enq m e) = enq m (plain_expr e)
  plain_stmt_kind (LoadSram sram dram spans) = load_sram sram dram (map plain_span spans.items)
  plain_stmt_kind (LoadLine line dram spans) = load_line line dram (map plain_span spans.items)
  plain_stmt_kind (Store dram spans sram) = store dram (map plain_span spans.items) sram
  plain_stmt_kind (Gather sram dram places count) = gather sram dram places (plain_expr count)
  plain_stmt_kind (Scatter dram places count sram) = scatter dram places (plain_expr count) sram
  plain_stmt_kind (Control' p ctl) = plain_ctl ctl

  pub plain_ctl : Ctl → PlainStmtKind
  plain_ctl (Block' style shape body) = block style (plain_row body)
  plain_ctl (Foreach' style counters shape body) = foreach style (map plain_counter counters.items) (plain_row body)
  plain_ctl (Reduce' style fold acc counters shape body word comb) =
      reduce style fold acc (map plain_counter counters.items) (plain_row body) (plain_expr word) comb
  plain_ctl (MemReduce' style acc counters shape body part comb) =
      mem_reduce style acc (map plain_counter counters.items) (plain_row body) part comb
  plain_ctl (Fsm' start tested test state shape body last next) =
      fsm (plain_expr start) tested (plain_expr test) state (plain_row body) last (plain_expr next)
  plain_ctl (Branch' test shape first shape2 second) = branch (plain_expr test) (plain_row first) (plain_row second)

  pub plain_row : {m : _} → Row_of-Stmt m → PlainStmts
  plain_row end_of-Stmt = no_stmt
  plain_row (more_of-Stmt at kind rest) = more_stmt (stmt at (plain_stmt_kind kind)) (plain_row rest)

abbrev pub plain_stmt : Stmt → PlainStmt
plain_stmt s = stmt s.at (plain_stmt_kind s.kind)

abbrev pub plain_stmts : List Stmt → PlainStmts
plain_stmts [] = no_stmt
plain_stmts (s ∷ rest) = more_stmt (plain_stmt s) (plain_stmts rest)
