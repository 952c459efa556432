-- What every tree that is read keeps.
use Rattle.std.specs.Prelude.{ℕ, ◌+◌, ◌≤◌, ◌<◌, max, List, length, All, Option, Some, None}
use Rattle.sp_words.specs.declared.kind.BinOp.{BinOp}
use Rattle.sp_words.specs.declared.kind.BinOp.TheVariants as binary
use Rattle.sp_words.specs.Interface.{IsCount}
use Rattle.sp_words.specs.Names.{IsName}
use Rattle.sp_reader.specs.PlainTree.{PlainExpr, PlainExprKind, PlainExprs, expr, number, truth, name, deq, access, mux, min, max as greater, one, two, shift, cast, no_expr, more_expr}
use Rattle.sp_reader.specs.PlainStatement.{PlainSpan, single, range, PlainCounter, PlainHead, PlainStmtKind, PlainStmts, stmt, reg, sram, fifo, line_buffer, bind, set, set_at, enq, load, store, gather, scatter, block, foreach, reduce, fold, mem_reduce, fsm, branch, no_stmt, more_stmt, body, PlainDecl, PlainDeclKind, arg_in, arg_out, dram, PlainSyntax}
use Rattle.sp_tree.specs.Typing.{IsLoopStyle}
use Rattle.sp_types.specs.Expressions.{index_count}
use Rattle.sp_typed.specs.Statements.{lanes, loop_style}

-- ---- expressions

-- an access has an index, and a shift is by 0 to 63 bits
abbrev mutual
  pub IsReadExpr : PlainExpr → Type 0
  IsReadExpr (expr place kind) = IsReadKind kind

  pub IsReadKind : PlainExprKind → Type 0
  IsReadKind (number d) = Unit {0}
  IsReadKind (truth b) = Unit {0}
  IsReadKind (name i dotted) = Unit {0}
  IsReadKind (deq i) = Unit {0}
  IsReadKind (access i indices) = (1 ≤ index_count indices) × AreReadExprs indices
  IsReadKind (mux c a b) = IsReadExpr c × IsReadExpr a × IsReadExpr b
  IsReadKind (min a b) = IsReadExpr a × IsReadExpr b
  IsReadKind (greater a b) = IsReadExpr a × IsReadExpr b
  IsReadKind (one op a) = IsReadExpr a
  IsReadKind (two op a b) = IsReadExpr a × IsReadExpr b
  IsReadKind (shift left a by) = IsReadExpr a × (by < 64)
  IsReadKind (cast a target) = IsReadExpr a

  pub AreReadExprs : PlainExprs → Type 0
  AreReadExprs no_expr = Unit {0}
  AreReadExprs (more_expr e rest) = IsReadExpr e × AreReadExprs rest

-- ---- spans and counters

abbrev pub IsReadSpan : PlainSpan → Type 0
IsReadSpan (single e) = IsReadExpr e
IsReadSpan (range from until par) = IsReadExpr from × IsReadExpr until × IsCount (lanes par)

abbrev pub IsReadFrom : Option PlainExpr → Type 0
IsReadFrom (Some e) = IsReadExpr e
IsReadFrom None = Unit {0}

pub record IsReadCounter (c : PlainCounter) : Type 0 where
  pub from : IsReadFrom c.from
  pub until : IsReadExpr c.until
  pub step : IsCount c.step
  pub par : IsCount (lanes c.par)

-- a loop is a pipe or a sequence, with one to four counters, and has a binder
pub record IsReadHead (h : PlainHead) : Type 0 where
  pub style : IsLoopStyle (loop_style h.style)
  pub one_to_four : (1 ≤ length h.counters) × (length h.counters ≤ 4)
  pub counters : All IsReadCounter h.counters
  pub binder : 1 ≤ length h.binds
  pub names : All (λ i. IsName i.text) h.binds

-- the operators of combiners
abbrev pub IsCombiner : BinOp → Type 0
IsCombiner binary.Add = Unit {0}
IsCombiner binary.Mul = Unit {0}
IsCombiner binary.And = Unit {0}
IsCombiner binary.Or = Unit {0}
IsCombiner binary.Xor = Unit {0}
IsCombiner binary.Min = Unit {0}
IsCombiner binary.Max = Unit {0}
IsCombiner _ = ⊥

-- ---- statements

-- one to three dimensions
abbrev pub AreDims : List ℕ → Type 0
AreDims dims = (1 ≤ length dims) × (length dims ≤ 3) × All IsCount dims

abbrev mutual
  pub IsReadBody : PlainStmts → Type 0
  IsReadBody no_stmt = Unit {0}
  IsReadBody (more_stmt (stmt place kind) rest) = IsReadStmt kind × IsReadBody rest

  pub IsReadStmt : PlainStmtKind → Type 0
  IsReadStmt (reg i ty start) = IsName i.text
  IsReadStmt (sram i ty dims) = IsName i.text × AreDims dims
  IsReadStmt (fifo i ty depth) = IsName i.text × IsCount depth
  IsReadStmt (line_buffer i ty rows columns) = IsName i.text × IsCount rows × IsCount columns
  IsReadStmt (bind i e) = IsName i.text × IsReadExpr e
  IsReadStmt (set i e) = IsReadExpr e
  IsReadStmt (set_at i indices e) = (1 ≤ length indices) × All IsReadExpr indices × IsReadExpr e
  IsReadStmt (enq i e) = IsReadExpr e
  IsReadStmt (load onto from spans) = All IsReadSpan spans
  IsReadStmt (store onto spans from) = All IsReadSpan spans
  IsReadStmt (gather onto from places count) = IsReadExpr count
  IsReadStmt (scatter onto places count from) = IsReadExpr count
  IsReadStmt (block style ss) = IsReadBody ss
  IsReadStmt (foreach h ss) = IsReadHead h × IsReadBody ss
  IsReadStmt (reduce h ss acc v c) = IsReadHead h × IsReadBody ss × IsReadExpr v × IsCombiner c.operator
  IsReadStmt (fold h ss acc v c) = IsReadHead h × IsReadBody ss × IsReadExpr v × IsCombiner c.operator
  IsReadStmt (mem_reduce h ss acc v c) = IsReadHead h × IsReadBody ss × IsReadExpr v × IsCombiner c.operator
  IsReadStmt (fsm start tested test now ss last next) =
      IsReadExpr start × IsName tested.text × IsReadExpr test × IsName now.text × IsReadBody ss × IsName last.text × IsReadExpr next
  IsReadStmt (branch test first second) = IsReadExpr test × IsReadBody first × IsReadBody second

-- how many controllers stand one inside another
abbrev mutual
  pub depth : PlainStmts → ℕ
  depth no_stmt = 0
  depth (more_stmt (stmt place kind) rest) = max (depth_in kind) (depth rest)

  pub depth_in : PlainStmtKind → ℕ
  depth_in (block style ss) = 1 + depth ss
  depth_in (foreach h ss) = 1 + depth ss
  depth_in (reduce h ss acc v c) = 1 + depth ss
  depth_in (fold h ss acc v c) = 1 + depth ss
  depth_in (mem_reduce h ss acc v c) = 1 + depth ss
  depth_in (fsm start tested test now ss last next) = 1 + depth ss
  depth_in (branch test first second) = 1 + max (depth first) (depth second)
  depth_in _ = 0

-- ---- programs

abbrev pub HasReadDims : PlainDeclKind → Type 0
HasReadDims (arg_in ty) = Unit {0}
HasReadDims (arg_out ty) = Unit {0}
HasReadDims (dram ty dims) = AreDims dims

pub record IsReadDecl (d : PlainDecl) : Type 0 where
  pub name : IsName d.name.text
  pub dims : HasReadDims d.kind

pub record IsReadTree (s : PlainSyntax) : Type 0 where
  pub decls : All IsReadDecl s.decls
  pub block : IsReadBody (body s.body)
  -- controllers stand in brackets, of which at most 64 are open
  pub nested : depth (body s.body) ≤ 64
