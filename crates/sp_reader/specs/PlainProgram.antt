-- The plain value of statements and programs as they are declared.
use Rattle.std.specs.Prelude.{List, [], ◌∷◌, map, Option, Some, None}
use Rattle.sp_reader.specs.declared.syntax.expression.Ident.{Ident}
use Rattle.sp_reader.specs.declared.syntax.expression.SynExpr.{SynExpr}
use Rattle.sp_reader.specs.declared.syntax.expression.SynLit.{SynLit}
use Rattle.sp_reader.specs.declared.syntax.statement.SynSpan.{SynSpan}
use Rattle.sp_reader.specs.declared.syntax.statement.SynSpan.TheVariants.{One, Range}
use Rattle.sp_reader.specs.declared.syntax.statement.SynCounter.{SynCounter}
use Rattle.sp_reader.specs.declared.syntax.statement.SynComb.{SynComb}
use Rattle.sp_reader.specs.declared.syntax.statement.SynLoop.{SynLoop, SynLoop'}
use Rattle.sp_reader.specs.declared.syntax.statement.SynStmt.{SynStmt}
use Rattle.sp_reader.specs.declared.syntax.statement.SynStmtKind.{SynStmtKind, Reg, Sram, Fifo, LineBuffer, Let, Set, SetAt, Enq, Load, Store, Gather, Scatter, Block', Foreach, Reduce, Fold, MemReduce, Fsm', If', Row_of-SynStmt, end_of-SynStmt, more_of-SynStmt}
use Rattle.sp_reader.specs.declared.syntax.declaration.SynDeclKind.{SynDeclKind}
use Rattle.sp_reader.specs.declared.syntax.declaration.SynDeclKind.TheVariants.{ArgIn, ArgOut, Dram}
use Rattle.sp_reader.specs.declared.syntax.declaration.SynDecl.{SynDecl}
use Rattle.sp_reader.specs.declared.syntax.declaration.Syntax.{Syntax}
use Rattle.sp_reader.specs.PlainTree.{PlainIdent, PlainLit, PlainExpr}
use Rattle.sp_reader.specs.Plain.{plain_ident, plain_lit, plain_expr, plain_exprs}
use Rattle.sp_reader.specs.PlainStatement.{PlainSpan, single, range, PlainCounter, PlainComb, PlainHead, PlainStmt, PlainStmtKind, PlainStmts, stmt, reg, sram, fifo, line_buffer, bind, set, set_at, enq, load, store, gather, scatter, block, foreach, reduce, fold, mem_reduce, fsm, branch, no_stmt, more_stmt, PlainDeclKind, arg_in, arg_out, dram, PlainDecl, PlainSyntax}

abbrev pub plain_span : SynSpan → PlainSpan
plain_span (One e) = single (plain_expr e)
plain_span (Range a b par) = range (plain_expr a) (plain_expr b) par

abbrev pub plain_from : Option SynExpr → Option PlainExpr
plain_from None = None
plain_from (Some e) = Some (plain_expr e)

abbrev pub plain_start : Option SynLit → Option PlainLit
plain_start None = None
plain_start (Some l) = Some (plain_lit l)

abbrev pub plain_counter : SynCounter → PlainCounter
plain_counter c = record { from = plain_from c.from; until = plain_expr c.until; step = c.by; par = c.par }

abbrev pub plain_names : Option (Ident × Ident) → Option (PlainIdent × PlainIdent)
plain_names None = None
plain_names (Some p) = Some (plain_ident p.0, plain_ident p.1)

abbrev pub plain_comb : SynComb → PlainComb
plain_comb c = record { place = c.at; params = plain_names c.params; operator = c.op; args = plain_names c.args }

abbrev pub plain_spans : List SynSpan → List PlainSpan
plain_spans = map plain_span

abbrev pub plain_counters : List SynCounter → List PlainCounter
plain_counters = map plain_counter

abbrev pub plain_idents : List Ident → List PlainIdent
plain_idents = map plain_ident

abbrev pub plain_head : SynLoop → PlainHead
plain_head (SynLoop' style counters binds shape all) = record { style = style; counters = plain_counters counters.items; binds = plain_idents binds.items }

abbrev mutual
  pub plain_stmt_kind : SynStmtKind → PlainStmtKind
  plain_stmt_kind (Reg i ty start) = reg (plain_ident i) ty (plain_start start)
  plain_stmt_kind (Sram i ty dims) = sram (plain_ident i) ty dims.items
  plain_stmt_kind (Fifo i ty depth) = fifo (plain_ident i) ty depth
  plain_stmt_kind (LineBuffer i ty rows columns) = line_buffer (plain_ident i) ty rows columns
  plain_stmt_kind (Let i e) = bind (plain_ident i) (plain_expr e)
  plain_stmt_kind (Set i e) = set (plain_ident i) (plain_expr e)
  plain_stmt_kind (SetAt i indices e) = set_at (plain_ident i) (plain_exprs indices.items) (plain_expr e)
  plain_stmt_kind (Enq i e) = enq (plain_ident i) (plain_expr e)
  plain_stmt_kind (Load i d spans) = load (plain_ident i) (plain_ident d) (plain_spans spans.items)
  plain_stmt_kind (Store d spans i) = store (plain_ident d) (plain_spans spans.items) (plain_ident i)
  plain_stmt_kind (Gather i d p e) = gather (plain_ident i) (plain_ident d) (plain_ident p) (plain_expr e)
  plain_stmt_kind (Scatter d p e i) = scatter (plain_ident d) (plain_ident p) (plain_expr e) (plain_ident i)
  plain_stmt_kind (Block' style shape all) = block style (plain_body all)
  plain_stmt_kind (Foreach l) = foreach (plain_head l) (plain_loop_body l)
  plain_stmt_kind (Reduce l i e comb) = reduce (plain_head l) (plain_loop_body l) (plain_ident i) (plain_expr e) (plain_comb comb)
  plain_stmt_kind (Fold l i e comb) = fold (plain_head l) (plain_loop_body l) (plain_ident i) (plain_expr e) (plain_comb comb)
  plain_stmt_kind (MemReduce l i e comb) = mem_reduce (plain_head l) (plain_loop_body l) (plain_ident i) (plain_expr e) (plain_comb comb)
  plain_stmt_kind (Fsm' start tested test state shape all last next) =
      fsm (plain_expr start) (plain_ident tested) (plain_expr test) (plain_ident state) (plain_body all) (plain_ident last) (plain_expr next)
  plain_stmt_kind (If' test shape first shape2 second) = branch (plain_expr test) (plain_body first) (plain_body second)

  pub plain_loop_body : SynLoop → PlainStmts
  plain_loop_body (SynLoop' style counters binds shape all) = plain_body all

  pub plain_body : {m : _} → Row_of-SynStmt m → PlainStmts
  plain_body end_of-SynStmt = no_stmt
  plain_body (more_of-SynStmt at kind rest) = more_stmt (stmt at (plain_stmt_kind kind)) (plain_body rest)

abbrev pub plain_stmt : SynStmt → PlainStmt
plain_stmt s = stmt s.at (plain_stmt_kind s.kind)

abbrev pub plain_stmts : List SynStmt → List PlainStmt
plain_stmts = map plain_stmt

abbrev pub plain_decl_kind : SynDeclKind → PlainDeclKind
plain_decl_kind (ArgIn ty) = arg_in ty
plain_decl_kind (ArgOut ty) = arg_out ty
plain_decl_kind (Dram ty dims) = dram ty dims.items

abbrev pub plain_decl : SynDecl → PlainDecl
plain_decl d = record { place = d.at; name = plain_ident d.name; kind = plain_decl_kind d.kind }

abbrev pub plain_decls : List SynDecl → List PlainDecl
plain_decls = map plain_decl

-- a program's tree as it is declared, without where it lies in memory
abbrev pub plain_syntax : Syntax → PlainSyntax
plain_syntax s = record { decls = plain_decls s.decls.items; body = plain_stmts s.body.items }
