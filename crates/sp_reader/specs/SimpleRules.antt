-- The plain reader: statements that hold no others.
use Rattle.std.specs.Prelude.{ℕ, Bool, true, false, not, ◌&&◌, if◌then◌else◌, List, [], ◌∷◌, ◌++◌, length, Option, Some, None, Result, Ok, Err}
use Rattle.sp_reader.specs.declared.token.TokenKind.{TokenKind}
use Rattle.sp_reader.specs.declared.token.TokenKind.TheVariants as k
use Rattle.sp_reader.specs.declared.token.Token.{Token}
use Rattle.sp_reader.specs.PlainTree.{PlainIdent, PlainLit, PlainExpr}
use Rattle.sp_reader.specs.PlainStatement.{PlainSpan, single, range, PlainStmtKind, reg, sram, fifo, line_buffer, bind, set, set_at, enq, load, store, gather, scatter}
use Rattle.sp_reader.specs.Steps.{Text, Outcome, Rule, and_then, ◌>>=◌, pure, refuse, is_name, kind_of, tail_of, place_of, sees, skip}
use Rattle.sp_reader.specs.Names.{name, count}
use Rattle.sp_reader.specs.TypeRules.{bracketed, literal, dims}
use Rattle.sp_reader.specs.SpanRules.{whole_expr, whole_exprs, spans}

-- ---- declarations

-- `(value)` at the end
unfoldable pub optional_literal : Text → Rule (Option PlainLit)
optional_literal source = λ ts.
    if sees k.OpenRound ts then (literal source >>= λ l. skip k.CloseRound >>= λ _. pure (Some l)) (tail_of ts) else Ok (None, ts)

unfoldable pub a_reg : Text → PlainIdent → Rule PlainStmtKind
a_reg source i = do
  t ← bracketed source
  start ← optional_literal source
  pure (reg i t start)

unfoldable pub a_sram : Text → PlainIdent → Rule PlainStmtKind
a_sram source i = do
  t ← bracketed source
  ds ← dims source
  pure (sram i t ds)

unfoldable pub a_fifo : Text → PlainIdent → Rule PlainStmtKind
a_fifo source i = do
  t ← bracketed source
  _ ← skip k.OpenRound
  depth ← count source
  _ ← skip k.CloseRound
  pure (fifo i t depth)

unfoldable pub a_line_buffer : Text → PlainIdent → Rule PlainStmtKind
a_line_buffer source i = do
  t ← bracketed source
  _ ← skip k.OpenRound
  rows ← count source
  _ ← skip k.Comma
  columns ← count source
  _ ← skip k.CloseRound
  pure (line_buffer i t rows columns)

unfoldable pub a_value : Text → PlainIdent → Rule PlainStmtKind
a_value source i = whole_expr source >>= λ e. pure (bind i e)

-- what stands after `val name =`
abbrev pub val_by : Text → PlainIdent → Rule PlainStmtKind
val_by source i = λ ts.
    if sees k.Reg ts then a_reg source i (tail_of ts)
    else (if sees k.Sram ts then a_sram source i (tail_of ts)
    else (if sees k.Fifo ts then a_fifo source i (tail_of ts)
    else (if sees k.LineBuffer ts then a_line_buffer source i (tail_of ts) else a_value source i ts)))

unfoldable pub val : Text → Rule PlainStmtKind
val source = do
  i ← name source
  _ ← skip k.Equal
  val_by source i

-- ---- statements that begin with a name

unfoldable pub a_set : Text → PlainIdent → Rule PlainStmtKind
a_set source i = whole_expr source >>= λ e. pure (set i e)

unfoldable pub a_enq : Text → PlainIdent → Rule PlainStmtKind
a_enq source i = do
  _ ← skip k.Enq
  _ ← skip k.OpenRound
  e ← whole_expr source
  _ ← skip k.CloseRound
  pure (enq i e)

unfoldable pub a_load : Text → PlainIdent → Rule PlainStmtKind
a_load source i = do
  d ← name source
  _ ← skip k.OpenRound
  all ← spans source
  _ ← skip k.CloseRound
  pure (load i d all)

unfoldable pub a_gather : Text → PlainIdent → Rule PlainStmtKind
a_gather source i = do
  d ← name source
  _ ← skip k.OpenRound
  p ← name source
  _ ← skip k.Comma
  e ← whole_expr source
  _ ← skip k.CloseRound
  pure (gather i d p e)

-- whether each span is one index
abbrev pub are_indices : List PlainSpan → Bool
are_indices [] = true
are_indices (single e ∷ rest) = are_indices rest
are_indices (range a b p ∷ rest) = false

-- an assignment to an element, from its `=` on; the first index begins where `inside` does
unfoldable pub a_set_at : Text → PlainIdent → List Token → List PlainSpan → Rule PlainStmtKind
a_set_at source i inside all = λ ts.
    if are_indices all then and_then (whole_exprs source inside) (λ es. λ _. (whole_expr source >>= λ e. pure (set_at i es e)) (tail_of ts)) else Err (length ts)

-- from its `store` on
unfoldable pub a_store : Text → PlainIdent → List PlainSpan → Rule PlainStmtKind
a_store source d all = λ ts. (name source >>= λ i. pure (store d all i)) (tail_of ts)

-- whether a name alone and a comma come next
unfoldable pub begins_with_name : List Token → Bool
begins_with_name ts = is_name (kind_of ts) && sees k.Comma (tail_of ts)

-- whether there are two spans, of which the second is one index
abbrev pub is_pair : List PlainSpan → Bool
is_pair (first ∷ single e ∷ []) = true
is_pair _ = false

-- the places of a scatter, and how many
unfoldable pub scattered : Text → Rule (PlainIdent × PlainExpr)
scattered source = do
  p ← name source
  _ ← skip k.Comma
  e ← whole_expr source
  pure (p, e)

-- from its `scatter` on; the places stand where `inside` begins
unfoldable pub a_scatter : Text → PlainIdent → List Token → List PlainSpan → Rule PlainStmtKind
a_scatter source d inside all = λ ts.
    if begins_with_name inside && is_pair all then and_then (scattered source inside) (λ p. λ _. (name source >>= λ i. pure (scatter d p.0 p.1 i)) (tail_of ts))
    else Err (length ts)

unfoldable pub with_spans : Text → PlainIdent → List Token → List PlainSpan → Rule PlainStmtKind
with_spans source i inside all = λ ts.
    if sees k.Equal ts then a_set_at source i inside all ts
    else (if sees k.Store ts then a_store source i all ts
    else (if sees k.Scatter ts then a_scatter source i inside all ts else Err (length ts)))

-- after its name and `(`
unfoldable pub on_spans : Text → PlainIdent → Rule PlainStmtKind
on_spans source i = λ inside. (spans source >>= λ all. skip k.CloseRound >>= λ _. with_spans source i inside all) inside

unfoldable pub after_name : Text → PlainIdent → Rule PlainStmtKind
after_name source i = λ ts.
    if sees k.Assign ts then a_set source i (tail_of ts)
    else (if sees k.Dot ts then a_enq source i (tail_of ts)
    else (if sees k.Load ts then a_load source i (tail_of ts)
    else (if sees k.Gather ts then a_gather source i (tail_of ts)
    else (if sees k.OpenRound ts then on_spans source i (tail_of ts) else Err (length ts)))))

unfoldable pub on_name : Text → Rule PlainStmtKind
on_name source = name source >>= after_name source

abbrev pub result_map : {A B : Type 0} → (A → B) → Result A ℕ → Result B ℕ
result_map f (Ok a) = Ok (f a)
result_map f (Err e) = Err e

abbrev pub no_statement : List PlainSpan → List Token → Bool
no_statement all ts = not (sees k.Equal ts) && not (sees k.Store ts) && not (sees k.Scatter ts) && are_indices all

-- ---- whether a value comes next in a body that ends with one, and no statement

-- after a name and `(`: it is no statement, whatever follows
unfoldable pub is_access : Text → List Token → Result Bool ℕ
is_access source ts = result_map (λ p. no_statement p.0 p.1) ((spans source >>= λ all. skip k.CloseRound >>= λ _. pure all) ts)

-- after a name
unfoldable pub is_named_value : Text → List Token → Result Bool ℕ
is_named_value source ts =
    if sees k.Assign ts then Ok false else (if sees k.Load ts then Ok false else (if sees k.Gather ts then Ok false
    else (if sees k.Dot ts then Ok (not (sees k.Enq (tail_of ts))) else (if sees k.OpenRound ts then is_access source (tail_of ts) else Ok true))))

abbrev pub begins_statement : TokenKind → Bool
begins_statement k.Val = true
begins_statement k.Foreach = true
begins_statement k.Reduce = true
begins_statement k.Fold = true
begins_statement k.MemReduce = true
begins_statement k.Fsm = true
begins_statement k.Sequential = true
begins_statement k.Pipe = true
begins_statement k.Parallel = true
begins_statement k.Stream = true
begins_statement k.If = true
begins_statement _ = false

unfoldable pub is_value : Text → List Token → Result Bool ℕ
is_value source ts =
    if begins_statement (kind_of ts) then Ok false else (if is_name (kind_of ts) then is_named_value source (tail_of ts) else Ok true)
