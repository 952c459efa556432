-- The refusals of statements and programs, and what is visible after a statement.
use Rattle.std.specs.Prelude.{ℕ, ◌+◌, ◌&&◌, ◌||◌, ◌==◌, Bool, true, false, not, if◌then◌else◌, List, [], ◌∷◌, ◌++◌, length, take, drop, Option, Some, None, is_some, is_none}
use Rattle.std.specs.Bool.{nat_eq}
use Rattle.std.specs.Cmp.Lexicographic.{pointwise}
use Rattle.sp_words.specs.declared.kind.Kind.{Kind}
use Rattle.sp_words.specs.declared.kind.Kind.TheVariants.{Reg, Sram, Fifo, LineBuf, Dram, ArgIn, ArgOut}
use Rattle.sp_words.specs.declared.types.Ty.{Ty}
use Rattle.sp_words.specs.declared.types.Ty.TheVariants.{Bit}
use Rattle.sp_words.specs.Types.{int_type}
use Rattle.sp_reader.specs.declared.syntax.expression.SynTy.{SynTy}
use Rattle.sp_reader.specs.PlainTree.{PlainIdent, PlainDigits, PlainLit, number_lit, truth_lit, PlainExpr, PlainExprKind, PlainExprs, expr, number, truth, name, deq, access, mux, min, max, one, two, shift, cast, place_of_expr, row}
use Rattle.sp_reader.specs.PlainStatement.{PlainSpan, PlainCounter, PlainComb, PlainHead, PlainStmt, PlainStmtKind, PlainStmts, stmt, reg, sram, fifo, line_buffer, bind, set, set_at, enq, load, store, gather, scatter, block, foreach, reduce, fold, mem_reduce, fsm, branch, no_stmt, more_stmt, body, PlainDeclKind, arg_in, arg_out, dram, PlainDecl, PlainSyntax}
use Rattle.sp_types.specs.declared.own.Ask.{Ask}
use Rattle.sp_types.specs.declared.own.Own.TheVariants.{Known}
use Rattle.sp_types.specs.declared.refusal.Found.TheVariants.{Typed, Literal}
use Rattle.sp_types.specs.declared.refusal.Refusal.{Refusal}
use Rattle.sp_types.specs.declared.refusal.Rule.TheVariants.{UnknownName, Twice, Misused, Rank, TypeClash, ParPlace}
use Rattle.sp_types.specs.Expressions.{told, name_refusals, is_kind, may_be, count_refusals, clash, type_refusals, other_type, literal_refusals, at_type, index_count, expr_refusals, exprs_refusals}
use Rattle.sp_types.specs.First.{one_if, refused, notes}
use Rattle.sp_types.specs.Spans.{bound_refusals, counters_refusals, twice, binds_refusals, with_binds, names_for_counters, spans_refusals, range_count, line_ranges, comb_refusals}
use Rattle.sp_types.specs.Types.{is_type, type_of, own, own_type, own_or_int, symbol_type}
use Rattle.sp_types.specs.Visible.{PlainSymbol, memory, value, counter, Visible, symbol_of, lookup, declare, with_acc, nothing_visible}

-- ---- declarations

-- a name that is given, with its type
abbrev pub declaration_refusals : Visible → PlainIdent → SynTy → List Refusal
declaration_refusals seen i ty = twice seen i ++ type_refusals ty

-- how a word that is written is checked
abbrev pub word : Option Ty → Ask
word ty = at_type ty false

-- an initial value that is a number, alone or cast
abbrev pub number_start : Option Ty → PlainDigits → Option SynTy → List Refusal
number_start ty d None = literal_refusals d.place ty d
number_start ty d (Some target) = other_type d.place ty (own_type (type_of target)) ++ literal_refusals d.place (type_of target) d ++ type_refusals target

abbrev pub start_refusals : Option Ty → Option PlainLit → List Refusal
start_refusals ty None = []
start_refusals ty (Some (number_lit d target)) = number_start ty d target
start_refusals ty (Some (truth_lit place b)) = other_type place ty (Known Bit)

-- ---- writes

-- what `:=` may write; a bare write of an SRAM lacks its indices
abbrev pub is_set : Option PlainSymbol → Bool
is_set (Some (memory Reg ty dims)) = true
is_set (Some (memory ArgOut ty dims)) = true
is_set (Some (memory Sram ty dims)) = true
is_set (Some (memory _ ty dims)) = false
is_set (Some (value ty)) = false
is_set (Some counter) = false
is_set None = true

-- how many indices a write has: none where there is no write
abbrev pub write_rank : Option PlainSymbol → Option ℕ
write_rank (Some (memory Sram ty dims)) = Some (length dims)
write_rank (Some (memory Reg ty dims)) = Some 0
write_rank (Some (memory Fifo ty dims)) = Some 0
write_rank (Some (memory ArgOut ty dims)) = Some 0
write_rank _ = None

abbrev pub sram_rank : PlainSymbol → Option ℕ
sram_rank (memory Sram ty dims) = Some (length dims)
sram_rank _ = None

abbrev pub bare_write : ℕ → Option PlainSymbol → List Refusal
bare_write place None = []
bare_write place (Some s) = elim (sram_rank s) [
  | Some rank ↦ count_refusals place rank 0
  | None ↦ one_if (not (is_set (Some s))) (refused place Misused)
]

abbrev pub indexed_write : ℕ → Option PlainSymbol → (got : ℕ) → List Refusal
indexed_write place None got = []
indexed_write place (Some s) got = elim (write_rank (Some s)) [
  | Some want ↦ count_refusals place want got
  | None ↦ refused place Misused ∷ []
]

-- the name of a write
abbrev pub set_refusals : Visible → PlainIdent → List Refusal
set_refusals seen i = name_refusals seen i ++ bare_write i.place (symbol_of seen i.text)

-- a write at indices
abbrev pub set_at_refusals : Visible → PlainIdent → PlainExprs → PlainExpr → List Refusal
set_at_refusals seen i indices e =
    name_refusals seen i ++ indexed_write i.place (symbol_of seen i.text) (index_count indices)
    ++ exprs_refusals seen (word (Some int_type)) indices ++ expr_refusals seen (word (symbol_type (symbol_of seen i.text))) e

-- ---- transfers

-- the memory on the chip and the DRAM have one type
abbrev pub types_differ : (want got : Option Ty) → ℕ → List Refusal
types_differ (Some want) (Some got) place = one_if (not (is_type want got)) (clash place want (Typed got))
types_differ (Some want) None place = []
types_differ None got place = []

-- the type of a memory of a kind
abbrev pub type_if : Kind → Option PlainSymbol → Option Ty
type_if kind symbol = if may_be kind symbol then symbol_type symbol else None

-- how many dimensions a memory of a kind has
abbrev pub rank_if : Kind → Option PlainSymbol → Option ℕ
rank_if kind (Some (memory other ty dims)) = if is_kind kind other then Some (length dims) else None
rank_if kind (Some (value ty)) = None
rank_if kind (Some counter) = None
rank_if kind None = None

-- another number than is wanted, where that is known
abbrev pub count_if : ℕ → Option ℕ → ℕ → List Refusal
count_if place (Some want) got = count_refusals place want got
count_if place None got = []

-- of the ranges of a line buffer's slice
abbrev pub line_range : ℕ → Option ℕ → List PlainSpan → List Refusal
line_range place (Some rank) spans = count_refusals place 1 (line_ranges spans)
line_range place None spans = []

-- a memory of a kind by its name
abbrev pub kind_use : Visible → Kind → PlainIdent → List Refusal
kind_use seen kind i = name_refusals seen i ++ one_if (not (may_be kind (symbol_of seen i.text))) (refused i.place Misused)

-- what is loaded: an SRAM or a line buffer
abbrev pub loaded_use : Visible → PlainIdent → List Refusal
loaded_use seen i =
    name_refusals seen i
    ++ one_if (not (may_be Sram (symbol_of seen i.text) || may_be LineBuf (symbol_of seen i.text))) (refused i.place Misused)

-- the type of what may be loaded
abbrev pub loaded_type : Option PlainSymbol → Option Ty
loaded_type symbol = if may_be Sram symbol || may_be LineBuf symbol then symbol_type symbol else None

-- the types and the numbers of spans and ranges of a load, by what is loaded and the DRAM
abbrev pub load_refusals : (place at : ℕ) → (chip outer : Option PlainSymbol) → List PlainSpan → List Refusal
load_refusals place at chip outer spans =
    types_differ (type_if Dram outer) (loaded_type chip) at ++ count_if place (rank_if Dram outer) (length spans)
    ++ count_if place (rank_if Sram chip) (range_count spans) ++ line_range place (rank_if LineBuf chip) spans

-- and of a store
abbrev pub store_refusals : (place at : ℕ) → (chip outer : Option PlainSymbol) → List PlainSpan → List Refusal
store_refusals place at chip outer spans =
    types_differ (type_if Dram outer) (type_if Sram chip) at ++ count_if place (rank_if Dram outer) (length spans) ++ count_if place (rank_if Sram chip) (range_count spans)

-- that a memory of a gather or scatter has one dimension
abbrev pub one_row : ℕ → Option ℕ → List Refusal
one_row place (Some rank) = count_refusals place 1 rank
one_row place None = []

-- the three memories of a gather or scatter, in the order of the text
abbrev pub rows : ℕ → (first second third : Option ℕ) → List Refusal
rows place first second third = one_row place first ++ one_row place second ++ one_row place third

-- the memory on the chip and the DRAM have one type, and the places are numbers of type `Int`
abbrev pub sparse_types : (at places : ℕ) → (chip outer index : Option PlainSymbol) → List Refusal
sparse_types at places chip outer index = types_differ (type_if Dram outer) (type_if Sram chip) at ++ types_differ (Some int_type) (type_if Sram index) places

-- ---- accumulators

abbrev pub same_if_known : Option Ty → Option Ty → Bool
same_if_known (Some a) (Some b) = is_type a b
same_if_known (Some a) None = true
same_if_known None b = true

-- an SRAM of a type and of dimensions
abbrev pub fits_sram : Option Ty → List ℕ → Option PlainSymbol → Bool
fits_sram ty dims (Some (memory kind of_part part)) = is_kind Sram kind && (same_if_known ty of_part && pointwise nat_eq dims part)
fits_sram ty dims (Some (value of_part)) = false
fits_sram ty dims (Some counter) = false
fits_sram ty dims None = true

-- what the value of a MemReduce names: an SRAM with the accumulator's type and dimensions
abbrev pub fits_acc : (acc part : Option PlainSymbol) → Bool
fits_acc (Some (memory kind ty dims)) part = fits_sram ty dims part
fits_acc (Some (value ty)) part = may_be Sram part
fits_acc (Some counter) part = may_be Sram part
fits_acc None part = may_be Sram part

-- an expression that is a name alone
abbrev pub bare_name : PlainExpr → Option PlainIdent
bare_name (expr place (name i false)) = Some i
bare_name (expr place (name i true)) = None
bare_name (expr place _) = None

-- of a name as the value of a MemReduce: it must be declared in the body, so it isn't visible outside
abbrev pub part_name : (outside : Bool) → (inside : Visible) → (acc : List ℕ) → PlainIdent → List Refusal
part_name outside inside acc i =
    name_refusals inside i ++ one_if (outside || not (fits_acc (symbol_of inside acc) (symbol_of inside i.text))) (refused i.place Misused)

-- whether an expression is a name alone that is visible
abbrev pub visible_name : Visible → Option PlainIdent → Bool
visible_name seen (Some i) = is_some (symbol_of seen i.text)
visible_name seen None = false

abbrev pub is_visible : Visible → PlainExpr → Bool
is_visible seen e = visible_name seen (bare_name e)

-- of the value, under what is visible after the body; `outside` says whether it is a name that is visible before it
abbrev pub part_if : (outside : Bool) → (inside : Visible) → (acc : List ℕ) → PlainExpr → List Refusal
part_if outside inside acc e = elim (bare_name e) [
  | Some i ↦ part_name outside inside acc i
  | None ↦ expr_refusals inside (word None) e ++ refused (place_of_expr e) Misused ∷ []
]

-- how a loop begins
abbrev pub head_refusals : Visible → List PlainCounter → List PlainIdent → List Refusal
head_refusals seen counters binds = counters_refusals seen counters ++ names_for_counters (length counters) binds ++ binds_refusals seen binds

-- ---- what is visible

abbrev pub after : Visible → PlainStmtKind → Visible
after seen (reg i ty start) = declare seen i.text (memory Reg (type_of ty) [])
after seen (sram i ty dims) = declare seen i.text (memory Sram (type_of ty) dims)
after seen (fifo i ty depth) = declare seen i.text (memory Fifo (type_of ty) (depth ∷ []))
after seen (line_buffer i ty rows columns) = declare seen i.text (memory LineBuf (type_of ty) (rows ∷ columns ∷ []))
after seen (bind i e) = declare seen i.text (value (own_or_int (own seen e)))
after seen _ = seen

abbrev pub after_all : Visible → PlainStmts → Visible
after_all seen no_stmt = seen
after_all seen (more_stmt (stmt place kind) rest) = after_all (after seen kind) rest

-- ---- statements

-- what is visible in the body of a loop with an accumulator
abbrev pub acc_inside : Visible → List PlainIdent → PlainIdent → Visible
acc_inside seen binds acc = with_acc (with_binds seen binds) acc.text

-- an expression that takes no word from a FIFO
abbrev pub still : Option Ty → Ask
still ty = at_type ty true

-- the state of an FSM
abbrev pub state : Visible → PlainExpr → Option Ty
state seen start = own_or_int (own seen start)

abbrev pub with_state : Visible → PlainExpr → PlainIdent → Visible
with_state seen start i = declare seen i.text (value (state seen start))

-- an accumulator of a kind, with the head of its loop
abbrev pub acc_refusals : Visible → Kind → List PlainCounter → List PlainIdent → PlainIdent → List Refusal
acc_refusals seen kind counters binds acc = kind_use seen kind acc ++ head_refusals seen counters binds

-- the value of a Reduce or a Fold, at the accumulator's type, and the combiner
abbrev pub value_refusals : Option Ty → Visible → PlainExpr → PlainComb → List Refusal
value_refusals ty seen v c = expr_refusals seen (word ty) v ++ comb_refusals ty c

abbrev pub test_refusals : Visible → PlainExpr → List Refusal
test_refusals seen test = expr_refusals seen (still (Some Bit)) test

-- the start and the test of an FSM
abbrev pub begin_refusals : Visible → (start : PlainExpr) → (tested : PlainIdent) → (test : PlainExpr) → List Refusal
begin_refusals seen start tested test = expr_refusals seen (still (state seen start)) start ++ (twice seen tested ++ test_refusals (with_state seen start tested) test)

-- and its next state
abbrev pub next_refusals : Visible → (start : PlainExpr) → (last : PlainIdent) → (next : PlainExpr) → List Refusal
next_refusals seen start last next = twice seen last ++ expr_refusals (with_state seen start last) (still (state seen start)) next

-- a Reduce or a Fold, by the refusals of its body and what is visible at its end
abbrev pub reduced : Visible → List PlainCounter → List PlainIdent → (acc : PlainIdent) → List Refusal → (at_end : Visible) → PlainExpr → PlainComb → List Refusal
reduced seen counters binds acc of_body at_end v c =
    acc_refusals seen Reg counters binds acc ++ of_body ++ value_refusals (symbol_type (symbol_of seen acc.text)) at_end v c

-- and a MemReduce
abbrev pub mem_reduced : Visible → List PlainCounter → List PlainIdent → (acc : PlainIdent) → List Refusal → (at_end : Visible) → PlainExpr → PlainComb → List Refusal
mem_reduced seen counters binds acc of_body at_end v c =
    acc_refusals seen Sram counters binds acc ++ of_body ++ part_if (is_visible (with_binds seen binds) v) at_end acc.text v
    ++ comb_refusals (symbol_type (symbol_of seen acc.text)) c

abbrev mutual
  pub body_refusals : Visible → PlainStmts → List Refusal
  body_refusals seen no_stmt = []
  body_refusals seen (more_stmt (stmt place kind) rest) = stmt_refusals seen place kind ++ body_refusals (after seen kind) rest

  pub stmt_refusals : Visible → ℕ → PlainStmtKind → List Refusal
  stmt_refusals seen place (reg i ty start) = declaration_refusals seen i ty ++ start_refusals (type_of ty) start
  stmt_refusals seen place (sram i ty dims) = declaration_refusals seen i ty
  stmt_refusals seen place (fifo i ty depth) = declaration_refusals seen i ty
  stmt_refusals seen place (line_buffer i ty rows columns) = declaration_refusals seen i ty
  stmt_refusals seen place (bind i e) = twice seen i ++ expr_refusals seen (word (own_or_int (own seen e))) e
  stmt_refusals seen place (set i e) = set_refusals seen i ++ expr_refusals seen (word (symbol_type (symbol_of seen i.text))) e
  stmt_refusals seen place (set_at i indices e) = set_at_refusals seen i (row indices) e
  stmt_refusals seen place (enq i e) = kind_use seen Fifo i ++ expr_refusals seen (word (symbol_type (symbol_of seen i.text))) e
  stmt_refusals seen place (load onto from spans) =
      loaded_use seen onto ++ kind_use seen Dram from
      ++ load_refusals place onto.place (symbol_of seen onto.text) (symbol_of seen from.text) spans
      ++ spans_refusals seen (may_be Sram (symbol_of seen onto.text)) spans
  stmt_refusals seen place (store onto spans from) =
      kind_use seen Dram onto ++ kind_use seen Sram from
      ++ store_refusals place from.place (symbol_of seen from.text) (symbol_of seen onto.text) spans
      ++ spans_refusals seen (may_be Sram (symbol_of seen from.text)) spans
  stmt_refusals seen place (gather onto from places count) =
      kind_use seen Sram onto ++ kind_use seen Dram from ++ kind_use seen Sram places
      ++ rows place (rank_if Sram (symbol_of seen onto.text)) (rank_if Dram (symbol_of seen from.text)) (rank_if Sram (symbol_of seen places.text))
      ++ sparse_types onto.place places.place (symbol_of seen onto.text) (symbol_of seen from.text) (symbol_of seen places.text)
      ++ bound_refusals seen count
  stmt_refusals seen place (scatter onto places count from) =
      kind_use seen Dram onto ++ kind_use seen Sram places ++ kind_use seen Sram from
      ++ rows place (rank_if Dram (symbol_of seen onto.text)) (rank_if Sram (symbol_of seen places.text)) (rank_if Sram (symbol_of seen from.text))
      ++ sparse_types from.place places.place (symbol_of seen from.text) (symbol_of seen onto.text) (symbol_of seen places.text)
      ++ bound_refusals seen count
  stmt_refusals seen place (block style ss) = body_refusals seen ss
  stmt_refusals seen place (foreach h ss) = head_refusals seen h.counters h.binds ++ body_refusals (with_binds seen h.binds) ss
  stmt_refusals seen place (reduce h ss acc v c) =
      reduced seen h.counters h.binds acc (body_refusals (acc_inside seen h.binds acc) ss) (after_all (acc_inside seen h.binds acc) ss) v c
  stmt_refusals seen place (fold h ss acc v c) =
      reduced seen h.counters h.binds acc (body_refusals (acc_inside seen h.binds acc) ss) (after_all (acc_inside seen h.binds acc) ss) v c
  stmt_refusals seen place (mem_reduce h ss acc v c) =
      mem_reduced seen h.counters h.binds acc (body_refusals (acc_inside seen h.binds acc) ss) (after_all (acc_inside seen h.binds acc) ss) v c
  stmt_refusals seen place (fsm start tested test now ss last next) =
      begin_refusals seen start tested test ++ (twice seen now ++ body_refusals (with_state seen start now) ss) ++ next_refusals seen start last next
  stmt_refusals seen place (branch test first second) = test_refusals seen test ++ body_refusals seen first ++ body_refusals seen second

-- ---- programs

abbrev pub port : PlainDeclKind → PlainSymbol
port (arg_in ty) = memory ArgIn (type_of ty) []
port (arg_out ty) = memory ArgOut (type_of ty) []
port (dram ty dims) = memory Dram (type_of ty) dims

abbrev pub port_type : PlainDeclKind → SynTy
port_type (arg_in ty) = ty
port_type (arg_out ty) = ty
port_type (dram ty dims) = ty

abbrev pub decls_refusals : Visible → List PlainDecl → List Refusal
decls_refusals seen [] = []
decls_refusals seen (d ∷ rest) = declaration_refusals seen d.name (port_type d.kind) ++ decls_refusals (declare seen d.name.text (port d.kind)) rest

abbrev pub with_ports : Visible → List PlainDecl → Visible
with_ports seen [] = seen
with_ports seen (d ∷ rest) = with_ports (declare seen d.name.text (port d.kind)) rest

-- all refusals of a tree
abbrev pub refusals : PlainSyntax → List Refusal
refusals s = decls_refusals nothing_visible s.decls ++ body_refusals (with_ports nothing_visible s.decls) (body s.body)

-- and the first of them
abbrev pub first_refusal : PlainSyntax → Option Refusal
first_refusal s = notes None (refusals s)
