-- When a program is typed: what stands where, with which type, under which names.
use Rattle.std.specs.Prelude.{◌≡◌, ◌≢◌, ℕ, ◌+◌, ◌<◌, ◌≤◌, ◌==◌, Bool, not, List, [], ◌∷◌, ◌++◌, map, length, slice_index_or, Contains, ◌⊎◌}
use Rattle.sp_words.specs.declared.kind.BinOp.{BinOp}
use Rattle.sp_words.specs.declared.kind.BinOp.TheVariants as binary
use Rattle.sp_words.specs.declared.kind.Kind.{Kind}
use Rattle.sp_words.specs.declared.kind.Kind.TheVariants.{Reg, Sram, Fifo, LineBuf, Dram, ArgIn, ArgOut}
use Rattle.sp_words.specs.declared.kind.Style.{Style}
use Rattle.sp_words.specs.declared.kind.Style.TheVariants.{Pipe, Sequential, Parallel, Stream}
use Rattle.sp_words.specs.declared.kind.UnOp.{UnOp}
use Rattle.sp_words.specs.declared.kind.UnOp.TheVariants as unary
use Rattle.sp_words.specs.declared.types.Ty.{Ty}
use Rattle.sp_words.specs.declared.types.Ty.TheVariants.{Bit}
use Rattle.sp_words.specs.Interface.{IsCount}
use Rattle.sp_words.specs.Types.{int_type}
use Rattle.sp_words.specs.Words.{IsWord}
use Rattle.sp_tree.specs.declared.statement.Comb.{Comb}
use Rattle.sp_tree.specs.declared.statement.Comb.TheVariants as combiner
use Rattle.sp_tree.specs.Footprint.{Names, BodyNames}
use Rattle.sp_tree.specs.PlainExpression.{PlainExpr, PlainExprKind, PlainExprs, expr, literal, counter, value, get_reg, get_arg, get_sram, get_line, deq, one, two, shift, mux, cast, no_expr, more_expr, type_of}
use Rattle.sp_tree.specs.PlainProgram.{PlainMem, no_mem, PlainProgram}
use Rattle.sp_tree.specs.Streams.{is_fifo}
use Rattle.sp_tree.specs.Structure.{own_mems, slice_lanes}
use Rattle.sp_tree.specs.PlainStatement.{PlainSpan, single, range, PlainCounter, PlainStmtKind, PlainStmts, stmt, declare, name, set_reg, set_out, set_sram, enq, load_sram, load_line, store, gather, scatter, block, foreach, reduce, mem_reduce, fsm, branch, no_stmt, more_stmt}

-- what is visible at a place: memories, values with their types, and counters, by number
pub record Scope : Type 0 where
  pub mems : List ℕ
  pub vals : List (ℕ × Ty)
  pub counters : List ℕ

abbrev pub with_mem : Scope → ℕ → Scope
with_mem scope m = record scope { mems = m ∷ scope.mems }

abbrev pub with_val : Scope → ℕ → Ty → Scope
with_val scope v ty = record scope { vals = (v, ty) ∷ scope.vals }

abbrev pub with_counter : Scope → ℕ → Scope
with_counter scope c = record scope { counters = c ∷ scope.counters }

-- one index or one operand that must be a number
abbrev pub IsNumber : Ty → Type 0
IsNumber ty = ty ≢ Bit

-- what an operator takes, by the type of its operands, and gives
abbrev pub OneTyped : UnOp → (from to : Ty) → Type 0
OneTyped unary.Neg from to = (from ≡ to) × IsNumber from
OneTyped unary.Not from to = from ≡ to

abbrev pub TwoTyped : BinOp → (from to : Ty) → Type 0
TwoTyped binary.And from to = from ≡ to
TwoTyped binary.Or from to = from ≡ to
TwoTyped binary.Xor from to = from ≡ to
TwoTyped binary.Lt from to = IsNumber from × (to ≡ Bit)
TwoTyped binary.Le from to = IsNumber from × (to ≡ Bit)
TwoTyped binary.Gt from to = IsNumber from × (to ≡ Bit)
TwoTyped binary.Ge from to = IsNumber from × (to ≡ Bit)
TwoTyped binary.Eq from to = to ≡ Bit
TwoTyped binary.Ne from to = to ≡ Bit
TwoTyped _ from to = (from ≡ to) × IsNumber from

-- a combiner of bits is a bitwise one
abbrev pub CombTyped : Comb → Ty → Type 0
CombTyped combiner.And ty = Unit {0}
CombTyped combiner.Or ty = Unit {0}
CombTyped combiner.Xor ty = Unit {0}
CombTyped _ ty = IsNumber ty

-- a loop is a pipe or a sequence
abbrev pub IsLoopStyle : Style → Type 0
IsLoopStyle Pipe = Unit {0}
IsLoopStyle Sequential = Unit {0}
IsLoopStyle Parallel = ⊥
IsLoopStyle Stream = ⊥

abbrev pub expr_count : PlainExprs → ℕ
expr_count no_expr = 0
expr_count (more_expr e rest) = 1 + expr_count rest

-- how many ranges a slice has, and whether only its last span is one
abbrev pub range_count : List PlainSpan → ℕ
range_count [] = 0
range_count (single e ∷ spans) = range_count spans
range_count (range a b par ∷ spans) = 1 + range_count spans

abbrev pub EndsInRange : List PlainSpan → Type 0
EndsInRange [] = ⊥
EndsInRange (range a b par ∷ []) = Unit {0}
EndsInRange (single e ∷ spans) = EndsInRange spans
EndsInRange _ = ⊥

-- only the last range may have several lanes
abbrev pub LanesAtLastRange : List PlainSpan → Type 0
LanesAtLastRange [] = Unit {0}
LanesAtLastRange (single e ∷ spans) = LanesAtLastRange spans
LanesAtLastRange (range a b par ∷ spans) = ((par ≡ 1) ⊎ (range_count spans ≡ 0)) × LanesAtLastRange spans

-- what is visible after a statement, and after all statements of a body
abbrev pub after : Scope → PlainStmtKind → Scope
after scope (declare m) = with_mem scope m
after scope (name v e) = with_val scope v (type_of e)
after scope _ = scope

abbrev pub after_all : Scope → PlainStmts → Scope
after_all scope no_stmt = scope
after_all scope (more_stmt (stmt place kind) rest) = after_all (after scope kind) rest

abbrev pub with_counters : Scope → List PlainCounter → Scope
with_counters scope [] = scope
with_counters scope (c ∷ counters) = with_counters (with_counter scope c.number) counters

module _ (p : PlainProgram) where
  abbrev pub mem_at : ℕ → PlainMem
  mem_at m = slice_index_or p.mems m no_mem

  -- the names that are visible
  abbrev pub visible : Scope → List (List ℕ)
  visible scope =
      map (λ m. (mem_at m).name) scope.mems ++ map (λ v. slice_index_or p.vals v.0 []) scope.vals ++ map (λ c. slice_index_or p.counters c []) scope.counters

  -- a name that may be given: none that is visible
  abbrev pub IsFresh : Scope → List ℕ → Type 0
  IsFresh scope given = Contains (visible scope) given → ⊥

  abbrev pub IsFreshVal : Scope → ℕ → Type 0
  IsFreshVal scope v = IsFresh scope (slice_index_or p.vals v [])

  -- a memory that is visible, of a kind and a type
  pub record IsMem (scope : Scope) (m : ℕ) (kind : Kind) (ty : Ty) : Type 0 where
    pub seen : Contains scope.mems m
    pub is_kind : (mem_at m).kind ≡ kind
    pub is_type : (mem_at m).ty ≡ ty

  abbrev mutual
    -- the expression is typed
    pub Typed : Scope → PlainExpr → Type 0
    Typed scope (expr place ty kind) = KindTyped scope kind ty

    -- by its parts, at a type
    pub KindTyped : Scope → PlainExprKind → Ty → Type 0
    KindTyped scope (literal w) ty = IsWord ty w
    KindTyped scope (counter c) ty = Contains scope.counters c × (ty ≡ int_type)
    KindTyped scope (value v) ty = Contains scope.vals (v, ty)
    KindTyped scope (get_reg m) ty = IsMem scope m Reg ty
    KindTyped scope (get_arg m) ty = IsMem scope m ArgIn ty
    KindTyped scope (get_sram m indices) ty = IsMem scope m Sram ty × (expr_count indices ≡ length (mem_at m).dims) × IndicesTyped scope indices
    KindTyped scope (get_line m row column) ty =
        IsMem scope m LineBuf ty × Typed scope row × (type_of row ≡ int_type) × Typed scope column × (type_of column ≡ int_type)
    KindTyped scope (deq m) ty = IsMem scope m Fifo ty
    KindTyped scope (one op a) ty = Typed scope a × OneTyped op (type_of a) ty
    KindTyped scope (two op a b) ty = Typed scope a × Typed scope b × (type_of a ≡ type_of b) × TwoTyped op (type_of a) ty
    KindTyped scope (shift left a by) ty = Typed scope a × (type_of a ≡ ty) × IsNumber ty × (by < 64)
    KindTyped scope (mux c a b) ty =
        Typed scope c × (type_of c ≡ Bit) × Typed scope a × (type_of a ≡ ty) × Typed scope b × (type_of b ≡ ty)
    KindTyped scope (cast a) ty = Typed scope a

    pub IndicesTyped : Scope → PlainExprs → Type 0
    IndicesTyped scope no_expr = Unit {0}
    IndicesTyped scope (more_expr e rest) = Typed scope e × (type_of e ≡ int_type) × IndicesTyped scope rest

  -- an expression at a type
  abbrev pub HasType : Scope → Ty → PlainExpr → Type 0
  HasType scope ty e = Typed scope e × (type_of e ≡ ty)

  -- and one that takes no word from a FIFO: a bound, a span, a start, a test or a next state
  abbrev pub HasTypeStill : Scope → Ty → PlainExpr → Type 0
  HasTypeStill scope ty e = HasType scope ty e × Names (λ m. not (is_fifo (mem_at m).kind)) e

  abbrev pub SpansTyped : Scope → List PlainSpan → Type 0
  SpansTyped scope [] = Unit {0}
  SpansTyped scope (single e ∷ spans) = HasTypeStill scope int_type e × SpansTyped scope spans
  SpansTyped scope (range a b par ∷ spans) = HasTypeStill scope int_type a × HasTypeStill scope int_type b × IsCount par × SpansTyped scope spans

  -- a slice of a DRAM, of its type, with one span for each dimension
  pub record IsSlice (scope : Scope) (dram : ℕ) (ty : Ty) (spans : List PlainSpan) : Type 0 where
    pub from_dram : IsMem scope dram Dram ty
    pub spans_typed : SpansTyped scope spans
    pub span_for_each : length spans ≡ length (mem_at dram).dims

  -- places of a DRAM of a type, which an SRAM holds, and how many of them
  pub record IsSparse (scope : Scope) (dram : ℕ) (ty : Ty) (places : ℕ) (count : PlainExpr) : Type 0 where
    pub in_dram : IsMem scope dram Dram ty
    pub one_dimension : length (mem_at dram).dims ≡ 1
    pub from_sram : IsMem scope places Sram int_type
    pub one_row : length (mem_at places).dims ≡ 1
    pub how_many : HasTypeStill scope int_type count

  -- the bounds of counters, which are evaluated outside of their loop; only the last one may have several lanes
  abbrev pub BoundsTyped : Scope → List PlainCounter → Type 0
  BoundsTyped scope [] = Unit {0}
  BoundsTyped scope (c ∷ rest) = HasTypeStill scope int_type c.from × HasTypeStill scope int_type c.until × IsCount c.step × IsCount c.par × BoundsTyped scope rest

  abbrev pub LanesAtEnd : List PlainCounter → Type 0
  LanesAtEnd [] = ⊥
  LanesAtEnd (c ∷ []) = Unit {0}
  LanesAtEnd (c ∷ next ∷ rest) = (c.par ≡ 1) × LanesAtEnd (next ∷ rest)

  -- each binder is a fresh name beside those before it
  abbrev pub BindersFresh : Scope → List PlainCounter → Type 0
  BindersFresh scope [] = Unit {0}
  BindersFresh scope (c ∷ rest) = IsFresh scope (slice_index_or p.counters c.number []) × BindersFresh (with_counter scope c.number) rest

  pub record CountersTyped (scope : Scope) (counters : List PlainCounter) : Type 0 where
    pub one_to_four : (1 ≤ length counters) × (length counters ≤ 4)
    pub bounds : BoundsTyped scope counters
    pub lanes : LanesAtEnd counters
    pub binders : BindersFresh scope counters

  -- every memory but this one
  abbrev pub all_but : ℕ → ℕ → Bool
  all_but acc m = not (m == acc)

  abbrev mutual
    -- the statements of a body, each under what is visible after those before it
    pub BodyTyped : Scope → PlainStmts → Type 0
    BodyTyped scope no_stmt = Unit {0}
    BodyTyped scope (more_stmt (stmt place kind) rest) = StmtTyped scope kind × BodyTyped (after scope kind) rest

    pub StmtTyped : Scope → PlainStmtKind → Type 0
    StmtTyped scope (declare m) = IsFresh scope (mem_at m).name
    StmtTyped scope (name v e) = IsFreshVal scope v × Typed scope e
    StmtTyped scope (set_reg m e) = IsMem scope m Reg (type_of e) × Typed scope e
    StmtTyped scope (set_out m e) = IsMem scope m ArgOut (type_of e) × Typed scope e
    StmtTyped scope (set_sram m indices e) =
        IsMem scope m Sram (type_of e) × (expr_count indices ≡ length (mem_at m).dims) × IndicesTyped scope indices × Typed scope e
    StmtTyped scope (enq m e) = IsMem scope m Fifo (type_of e) × Typed scope e
    StmtTyped scope (load_sram sram dram spans) =
        IsMem scope sram Sram (mem_at sram).ty × IsSlice scope dram (mem_at sram).ty spans × (range_count spans ≡ length (mem_at sram).dims)
        × LanesAtLastRange spans
    StmtTyped scope (load_line line dram spans) =
        IsMem scope line LineBuf (mem_at line).ty × IsSlice scope dram (mem_at line).ty spans × EndsInRange spans × (slice_lanes spans ≡ 1)
    StmtTyped scope (store dram spans sram) =
        IsMem scope sram Sram (mem_at sram).ty × IsSlice scope dram (mem_at sram).ty spans × (range_count spans ≡ length (mem_at sram).dims)
        × LanesAtLastRange spans
    StmtTyped scope (gather sram dram places count) =
        IsMem scope sram Sram (mem_at sram).ty × IsSparse scope dram (mem_at sram).ty places count × (length (mem_at sram).dims ≡ 1)
    StmtTyped scope (scatter dram places count sram) =
        IsMem scope sram Sram (mem_at sram).ty × IsSparse scope dram (mem_at sram).ty places count × (length (mem_at sram).dims ≡ 1)
    StmtTyped scope (block style body) = BodyTyped scope body
    StmtTyped scope (foreach style counters body) = IsLoopStyle style × CountersTyped scope counters × BodyTyped (with_counters scope counters) body
    StmtTyped scope (reduce style fold acc counters body word comb) =
        IsLoopStyle style × CountersTyped scope counters × BodyTyped (with_counters scope counters) body
        × IsMem scope acc Reg (type_of word) × CombTyped comb (type_of word)
        × Typed (after_all (with_counters scope counters) body) word
        × BodyNames (all_but acc) body × Names (all_but acc) word
    StmtTyped scope (mem_reduce style acc counters body part comb) =
        IsLoopStyle style × CountersTyped scope counters × BodyTyped (with_counters scope counters) body
        × IsMem scope acc Sram (mem_at acc).ty × CombTyped comb (mem_at acc).ty × BodyNames (all_but acc) body
        × Contains (own_mems body) part × ((mem_at part).kind ≡ Sram) × ((mem_at part).ty ≡ (mem_at acc).ty) × ((mem_at part).dims ≡ (mem_at acc).dims)
    StmtTyped scope (fsm start tested test state body last next) =
        HasTypeStill scope (type_of start) start
        × IsFreshVal scope tested × HasTypeStill (with_val scope tested (type_of start)) Bit test
        × IsFreshVal scope state × BodyTyped (with_val scope state (type_of start)) body
        × IsFreshVal scope last × HasTypeStill (with_val scope last (type_of start)) (type_of start) next
    StmtTyped scope (branch test first second) = HasTypeStill scope Bit test × BodyTyped scope first × BodyTyped scope second
