-- The rules of statements and programs.
use Rattle.std.specs.Prelude.{◌≡◌, ℕ, true, false, List, [], ◌∷◌, length, Option, Some, None, ◌⊎◌}
use Rattle.sp_words.specs.declared.kind.Kind.{Kind}
use Rattle.sp_words.specs.declared.kind.Kind.TheVariants.{Reg, Sram, Fifo, LineBuf, Dram, ArgOut}
use Rattle.sp_words.specs.declared.types.Ty.{Ty}
use Rattle.sp_words.specs.declared.types.Ty.TheVariants.{Bit}
use Rattle.sp_words.specs.Types.{int_type}
use Rattle.sp_reader.specs.declared.syntax.expression.SynTy.{SynTy}
use Rattle.sp_reader.specs.PlainTree.{PlainIdent, PlainLit, number_lit, truth_lit, PlainExpr, row}
use Rattle.sp_reader.specs.PlainStatement.{PlainSpan, PlainStmtKind, PlainStmts, stmt, reg, sram, fifo, line_buffer, bind, set, set_at, enq, load, store, gather, scatter, block, foreach, reduce, fold, mem_reduce, fsm, branch, no_stmt, more_stmt, body, PlainDecl, PlainSyntax}
use Rattle.sp_types.specs.Literal.{literal_word}
use Rattle.sp_types.specs.Spans.{with_binds, range_count, line_ranges}
use Rattle.sp_types.specs.Statements.{bare_name, after, after_all, acc_inside, port, port_type, with_ports}
use Rattle.sp_types.specs.Types.{own, own_or_int, type_of}
use Rattle.sp_types.specs.Visible.{PlainSymbol, memory, value, counter, Visible, declare, nothing_visible}
use Rattle.sp_rules.specs.ExpressionRules.{Names, IsRight, AreRight}
use Rattle.sp_rules.specs.SpanRules.{IsBound, AreSpans, IsNew, IsHead, Combines}

-- ---- declarations

-- an initial value is a word of the register's type
abbrev pub IsStart : Ty → Option PlainLit → Type 0
IsStart ty None = Unit {0}
IsStart ty (Some (number_lit d None)) = (w : ℕ) × (literal_word ty d ≡ Some w)
IsStart ty (Some (number_lit d (Some target))) = (w : ℕ) × (type_of target ≡ Some ty) × (literal_word ty d ≡ Some w)
IsStart ty (Some (truth_lit place b)) = ty ≡ Bit

abbrev pub IsDeclared : Visible → PlainIdent → SynTy → Type 0
IsDeclared seen i written = (ty : Ty) × IsNew seen i × (type_of written ≡ Some ty)

-- ---- writes and transfers

-- what `:=` writes: a register or an output
abbrev pub IsWritten : PlainSymbol → Ty → Type 0
IsWritten (memory Reg t dims) ty = t ≡ Some ty
IsWritten (memory ArgOut t dims) ty = t ≡ Some ty
IsWritten (memory _ t dims) ty = ⊥
IsWritten (value t) ty = ⊥
IsWritten counter ty = ⊥

-- a memory of a kind and a type, by its name
abbrev pub IsMemory : Visible → PlainIdent → Kind → Ty → List ℕ → Type 0
IsMemory seen i kind ty dims = Names seen i (memory kind (Some ty) dims)

-- a slice of a DRAM for an SRAM of its type: one span for each dimension of the DRAM, one range for each of the SRAM
pub record IsSlice (seen : Visible) (sram_name dram_name : PlainIdent) (spans : List PlainSpan) : Type 0 where
  pub ty : Ty
  pub dims : List ℕ
  pub outer : List ℕ
  pub on_chip : IsMemory seen sram_name Sram ty dims
  pub of_dram : IsMemory seen dram_name Dram ty outer
  pub span_for_each : length outer ≡ length spans
  pub range_for_each : length dims ≡ range_count spans
  pub spans_right : AreSpans seen true spans

-- one for a line buffer, whose last span is its only range
pub record IsRow (seen : Visible) (line_name dram_name : PlainIdent) (spans : List PlainSpan) : Type 0 where
  pub ty : Ty
  pub dims : List ℕ
  pub outer : List ℕ
  pub on_chip : IsMemory seen line_name LineBuf ty dims
  pub of_dram : IsMemory seen dram_name Dram ty outer
  pub span_for_each : length outer ≡ length spans
  pub last_range : 1 ≡ line_ranges spans
  pub spans_right : AreSpans seen false spans

-- a gather or a scatter: three memories of one dimension, the places of type `Int`
pub record IsSparse (seen : Visible) (sram_name dram_name places : PlainIdent) (count : PlainExpr) : Type 0 where
  pub ty : Ty
  pub dims : List ℕ
  pub outer : List ℕ
  pub place_dims : List ℕ
  pub on_chip : IsMemory seen sram_name Sram ty dims
  pub of_dram : IsMemory seen dram_name Dram ty outer
  pub at_places : IsMemory seen places Sram int_type place_dims
  pub one_row : 1 ≡ length dims
  pub one_column : 1 ≡ length outer
  pub one_list : 1 ≡ length place_dims
  pub how_many : IsBound seen count

-- ---- accumulators

-- the value of a MemReduce: the name alone of an SRAM that its body declares, like the accumulator
abbrev pub IsPart : (before inside : Visible) → PlainExpr → Ty → List ℕ → Type 0
IsPart before inside v ty dims = (i : PlainIdent) × (bare_name v ≡ Some i) × IsNew before i × IsMemory inside i Sram ty dims

-- ---- statements

abbrev mutual
  pub IsRightBody : Visible → PlainStmts → Type 0
  IsRightBody seen no_stmt = Unit {0}
  IsRightBody seen (more_stmt (stmt place kind) rest) = IsRightStmt seen kind × IsRightBody (after seen kind) rest

  pub IsRightStmt : Visible → PlainStmtKind → Type 0
  IsRightStmt seen (reg i written start) = (ty : Ty) × IsNew seen i × (type_of written ≡ Some ty) × IsStart ty start
  IsRightStmt seen (sram i written dims) = IsDeclared seen i written
  IsRightStmt seen (fifo i written depth) = IsDeclared seen i written
  IsRightStmt seen (line_buffer i written rows columns) = IsDeclared seen i written
  IsRightStmt seen (bind i e) = (ty : Ty) × IsNew seen i × (own_or_int (own seen e) ≡ Some ty) × IsRight seen false ty e
  IsRightStmt seen (set i e) = (ty : Ty) × ((s : PlainSymbol) × Names seen i s × IsWritten s ty) × IsRight seen false ty e
  IsRightStmt seen (set_at i indices e) =
      (ty : Ty) × ((dims : List ℕ) × IsMemory seen i Sram ty dims × (length dims ≡ length indices)) × AreRight seen false int_type (row indices) × IsRight seen false ty e
  IsRightStmt seen (enq i e) = (ty : Ty) × ((dims : List ℕ) × IsMemory seen i Fifo ty dims) × IsRight seen false ty e
  IsRightStmt seen (load onto from spans) = IsSlice seen onto from spans ⊎ IsRow seen onto from spans
  IsRightStmt seen (store onto spans from) = IsSlice seen from onto spans
  IsRightStmt seen (gather onto from places count) = IsSparse seen onto from places count
  IsRightStmt seen (scatter onto places count from) = IsSparse seen from onto places count
  IsRightStmt seen (block style ss) = IsRightBody seen ss
  IsRightStmt seen (foreach h ss) = IsHead seen h.counters h.binds × IsRightBody (with_binds seen h.binds) ss
  IsRightStmt seen (reduce h ss acc v c) =
      (ty : Ty) × ((dims : List ℕ) × IsMemory seen acc Reg ty dims) × IsHead seen h.counters h.binds × IsRightBody (acc_inside seen h.binds acc) ss
      × IsRight (after_all (acc_inside seen h.binds acc) ss) false ty v × Combines ty c
  IsRightStmt seen (fold h ss acc v c) =
      (ty : Ty) × ((dims : List ℕ) × IsMemory seen acc Reg ty dims) × IsHead seen h.counters h.binds × IsRightBody (acc_inside seen h.binds acc) ss
      × IsRight (after_all (acc_inside seen h.binds acc) ss) false ty v × Combines ty c
  IsRightStmt seen (mem_reduce h ss acc v c) =
      (ty : Ty) × (dims : List ℕ) × IsMemory seen acc Sram ty dims × IsHead seen h.counters h.binds × IsRightBody (acc_inside seen h.binds acc) ss
      × IsPart (with_binds seen h.binds) (after_all (acc_inside seen h.binds acc) ss) v ty dims × Combines ty c
  IsRightStmt seen (fsm start tested test now ss last next) =
      (ty : Ty) × (own_or_int (own seen start) ≡ Some ty) × IsRight seen true ty start
      × IsNew seen tested × IsRight (declare seen tested.text (value (Some ty))) true Bit test
      × IsNew seen now × IsRightBody (declare seen now.text (value (Some ty))) ss
      × IsNew seen last × IsRight (declare seen last.text (value (Some ty))) true ty next
  IsRightStmt seen (branch test first second) = IsRight seen true Bit test × IsRightBody seen first × IsRightBody seen second

-- ---- programs

abbrev pub AreDeclared : Visible → List PlainDecl → Type 0
AreDeclared seen [] = Unit {0}
AreDeclared seen (d ∷ rest) = IsDeclared seen d.name (port_type d.kind) × AreDeclared (declare seen d.name.text (port d.kind)) rest

-- a tree keeps the rules of names and types
pub record IsRightTree (s : PlainSyntax) : Type 0 where
  pub declarations : AreDeclared nothing_visible s.decls
  pub block : IsRightBody (with_ports nothing_visible s.decls) (body s.body)
