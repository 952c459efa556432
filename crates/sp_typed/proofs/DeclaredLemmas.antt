-- The declarations of a tree that is read are right by themselves.
use Rattle.std.proofs.Common.{◌≡◌, ℕ, ◌+◌, ◌<◌, max, Bool, true, false, cond, List, [], ◌∷◌, ◌++◌, Option, Some, None, refl, ap, ◌∙◌, arith}
use Rattle.std.specs.Prelude.{All, ℤ, slice_index_or}
use Rattle.std.proofs.lemmas.List.Elements.{All-nil, All-cons, All-append, All-map}
use Rattle.sp_words.specs.declared.kind.Kind.TheVariants.{Reg, Sram, Fifo, LineBuf}
use Rattle.sp_words.specs.declared.types.Ty.{Ty}
use Rattle.sp_words.specs.declared.types.Ty.TheVariants.{Fix, Bit}
use Rattle.sp_words.specs.Decimal.{decimal_value}
use Rattle.sp_words.specs.Interface.{IsCount}
use Rattle.sp_words.specs.Names.{IsName}
use Rattle.sp_words.specs.Types.{width_of}
use Rattle.sp_words.specs.Words.{IsWord, wrap}
use Rattle.std.proofs.Math.Pow.{pow-lt}
use Rattle.sp_words.proofs.LawLemmas.{wrap-lt}
use Rattle.sp_words.proofs.OperatorLemmas.{one-le-width}
use Rattle.sp_reader.specs.PlainTree.{PlainDigits, PlainLit, number_lit, truth_lit}
use Rattle.sp_reader.specs.PlainStatement.{PlainHead, PlainDecl, PlainDeclKind, arg_in, arg_out, dram, PlainStmtKind, PlainStmts, stmt, reg, sram, fifo, line_buffer, bind, set, set_at, enq, load, store, gather, scatter, block, foreach, reduce, fold, mem_reduce, fsm, branch, no_stmt, more_stmt}
use Rattle.sp_tree.specs.Declarations.{IsDeclaration, HasStart}
use Rattle.sp_tree.specs.PlainProgram.{PlainMem}
use Rattle.sp_tree.specs.PlainExpression.{PlainExpr}
use Rattle.sp_tree.specs.PlainStatement as statement
use Rattle.sp_tree.specs.Structure as program
use Rattle.sp_types.specs.Types.{type_of}
use Rattle.sp_types.specs.Literal.{literal_word, is_in_range, are_digits, may_stand}
use Rattle.sp_typed.specs.Declarations.{mem_of, port_mem, ports_declared, mems_declared, mems_in, start_word, vals_declared, vals_in, counters_declared, counters_in, texts, after, in_loop, past_body}
use Rattle.sp_typed.specs.Expressions.{known, number_word, word_if, truth_word, is_line, symbol_at, type_by_itself}
use Rattle.sp_typed.specs.Named.{Here}
use Rattle.sp_typed.specs.ReadTree as read
use Rattle.sp_typed.specs.Statements.{body_typed, stmt_typed, write, is_output, load_typed, in_fsm}

-- ---- words

one_word : (ty : Ty) → IsWord ty 1
one_word ty =
    let h : 0 < width_of ty = omega (arith, one-le-width ty) in
    pow-lt {i = 0} h

pub zero_word : (ty : Ty) → IsWord ty 0
zero_word ty = omega (arith, one_word ty)

fits : (ty : Ty) (b : Bool) (z : ℤ) → IsWord ty (word_if (cond b (Some (wrap ty z)) None))
fits ty true z = wrap-lt ty z
fits ty false z = zero_word ty

fits_two : (ty : Ty) (a b c : Bool) (z : ℤ) → IsWord ty (word_if (cond a (cond b (cond c (Some (wrap ty z)) None) None) None))
fits_two ty true true c z = fits ty c z
fits_two ty true false c z = zero_word ty
fits_two ty false b c z = zero_word ty

-- the word of a literal is one of its type
pub number_is_word : (ty : Ty) (d : PlainDigits) → IsWord ty (number_word ty d)
unfolding literal_word
number_is_word Bit d = zero_word Bit
number_is_word (Fix fix) d =
    fits_two (Fix fix) (are_digits d.digits) (may_stand (Fix fix) d.digits) (is_in_range (Fix fix) (decimal_value (Fix fix) d.negative d.whole d.digits)) (decimal_value (Fix fix) d.negative d.whole d.digits)

pub truth_is_word : (ty : Ty) (b : Bool) → IsWord ty (truth_word b)
truth_is_word ty true = one_word ty
truth_is_word ty false = zero_word ty

start_is_word : (m : PlainMem) (start : Option PlainLit) → HasStart m Reg (start_word m.ty start)
start_is_word m None = tt
start_is_word m (Some (number_lit d target)) = number_is_word m.ty d
start_is_word m (Some (truth_lit place b)) = truth_is_word m.ty b

-- ---- memories

port_right : (d : PlainDecl) (k : PlainDeclKind) → IsName d.name.text → read.HasReadDims k → IsDeclaration (port_mem d k)
port_right d (arg_in ty) name dims = record { name = name; rank = refl; dims = All-nil IsCount; start = refl }
port_right d (arg_out ty) name dims = record { name = name; rank = refl; dims = All-nil IsCount; start = refl }
port_right d (dram ty ds) name dims = record { name = name; rank = (dims.0, dims.1); dims = dims.2; start = refl }

decl_right : (d : PlainDecl) → read.IsReadDecl d → IsDeclaration (port_mem d d.kind)
decl_right d h = port_right d d.kind h.name h.dims

pub ports_right : (decls : List PlainDecl) → All read.IsReadDecl decls → All IsDeclaration (ports_declared decls)
ports_right decls h = All-map IsDeclaration (λ d. port_mem d d.kind) decls (λ k d lt. decl_right (slice_index_or decls k d) (h k d lt))

alone : (m : PlainMem) → IsDeclaration m → All IsDeclaration (m ∷ [])
alone m h = All-cons IsDeclaration m [] h (All-nil IsDeclaration)

mutual
  pub mems_right : (ss : PlainStmts) → read.IsReadBody ss → All IsDeclaration (mems_declared ss)
  mems_right no_stmt h = All-nil IsDeclaration
  mems_right (more_stmt (stmt place kind) rest) h = All-append IsDeclaration (mems_in place kind) (mems_declared rest) (mems_right_in place kind h.0) (mems_right rest h.1)

  mems_right_in : (place : ℕ) (kind : PlainStmtKind) → read.IsReadStmt kind → All IsDeclaration (mems_in place kind)
  mems_right_in place (reg i ty start) h = alone (mem_of place i Reg ty [] (start_word (known (type_of ty)) start)) (record { name = h; rank = refl; dims = All-nil IsCount; start = start_is_word (mem_of place i Reg ty [] None) start })
  mems_right_in place (sram i ty dims) h = alone (mem_of place i Sram ty dims None) (record { name = h.0; rank = (h.1.0, h.1.1); dims = h.1.2; start = refl })
  mems_right_in place (fifo i ty depth) h = alone (mem_of place i Fifo ty (depth ∷ []) None) (record { name = h.0; rank = refl; dims = All-cons IsCount depth [] h.1 (All-nil IsCount); start = refl })
  mems_right_in place (line_buffer i ty rows columns) h =
      alone (mem_of place i LineBuf ty (rows ∷ columns ∷ []) None) (record { name = h.0; rank = refl; dims = All-cons IsCount rows (columns ∷ []) h.1 (All-cons IsCount columns [] h.2 (All-nil IsCount)); start = refl })
  mems_right_in place (block style ss) h = mems_right ss h
  mems_right_in place (foreach l ss) h = mems_right ss h.1
  mems_right_in place (reduce l ss acc v c) h = mems_right ss h.1
  mems_right_in place (fold l ss acc v c) h = mems_right ss h.1
  mems_right_in place (mem_reduce l ss acc v c) h = mems_right ss h.1
  mems_right_in place (fsm start tested test now ss last next) h = mems_right ss h.4
  mems_right_in place (branch test first second) h = All-append IsDeclaration (mems_declared first) (mems_declared second) (mems_right first h.1) (mems_right second h.2)
  mems_right_in place _ h = All-nil IsDeclaration

-- ---- names of values and of counters

mutual
  pub vals_right : (ss : PlainStmts) → read.IsReadBody ss → All IsName (vals_declared ss)
  vals_right no_stmt h = All-nil IsName
  vals_right (more_stmt (stmt place kind) rest) h = All-append IsName (vals_in kind) (vals_declared rest) (vals_right_in kind h.0) (vals_right rest h.1)

  vals_right_in : (kind : PlainStmtKind) → read.IsReadStmt kind → All IsName (vals_in kind)
  vals_right_in (bind i e) h = All-cons IsName i.text [] h.0 (All-nil IsName)
  vals_right_in (block style ss) h = vals_right ss h
  vals_right_in (foreach l ss) h = vals_right ss h.1
  vals_right_in (reduce l ss acc v c) h = vals_right ss h.1
  vals_right_in (fold l ss acc v c) h = vals_right ss h.1
  vals_right_in (mem_reduce l ss acc v c) h = vals_right ss h.1
  vals_right_in (fsm start tested test now ss last next) h =
      All-cons IsName tested.text (now.text ∷ vals_declared ss ++ last.text ∷ []) h.1 (All-cons IsName now.text (vals_declared ss ++ last.text ∷ []) h.3
      (All-append IsName (vals_declared ss) (last.text ∷ []) (vals_right ss h.4) (All-cons IsName last.text [] h.5 (All-nil IsName))))
  vals_right_in (branch test first second) h = All-append IsName (vals_declared first) (vals_declared second) (vals_right first h.1) (vals_right second h.2)
  vals_right_in _ h = All-nil IsName

with_binders : (h : PlainHead) (names : List (List ℕ)) → read.IsReadHead h → All IsName names → All IsName (texts h.binds ++ names)
with_binders h names r all = All-append IsName (texts h.binds) names (All-map IsName (λ i. i.text) h.binds r.names) all

mutual
  pub counters_right : (ss : PlainStmts) → read.IsReadBody ss → All IsName (counters_declared ss)
  counters_right no_stmt h = All-nil IsName
  counters_right (more_stmt (stmt place kind) rest) h = All-append IsName (counters_in kind) (counters_declared rest) (counters_right_in kind h.0) (counters_right rest h.1)

  counters_right_in : (kind : PlainStmtKind) → read.IsReadStmt kind → All IsName (counters_in kind)
  counters_right_in (block style ss) h = counters_right ss h
  counters_right_in (foreach l ss) h = with_binders l (counters_declared ss) h.0 (counters_right ss h.1)
  counters_right_in (reduce l ss acc v c) h = with_binders l (counters_declared ss) h.0 (counters_right ss h.1)
  counters_right_in (fold l ss acc v c) h = with_binders l (counters_declared ss) h.0 (counters_right ss h.1)
  counters_right_in (mem_reduce l ss acc v c) h = with_binders l (counters_declared ss) h.0 (counters_right ss h.1)
  counters_right_in (fsm start tested test now ss last next) h = counters_right ss h.4
  counters_right_in (branch test first second) h = All-append IsName (counters_declared first) (counters_declared second) (counters_right first h.1) (counters_right second h.2)
  counters_right_in _ h = All-nil IsName

-- ---- depth

write_depth : (b : Bool) (n : ℕ) (e : PlainExpr) → program.depth_in (write b n e) ≡ 0
write_depth true n e = refl
write_depth false n e = refl

load_depth : (b : Bool) (m n : ℕ) (spans : List statement.PlainSpan) → program.depth_in (load_typed b m n spans) ≡ 0
load_depth true m n spans = refl
load_depth false m n spans = refl

both_max : (a b c d : ℕ) → a ≡ b → c ≡ d → max a c ≡ max b d
both_max a b c d e f = ap (λ n. max n c) e ∙ ap (max b) f

-- controllers stand as deep as they are written
mutual
  pub same_depth : (here : Here) (ss : PlainStmts) → program.depth (body_typed here ss) ≡ read.depth ss
  same_depth here no_stmt = refl
  same_depth here (more_stmt (stmt place kind) rest) = both_max _ _ _ _ (same_depth_in here kind) (same_depth (after here kind) rest)

  same_depth_in : (here : Here) (kind : PlainStmtKind) → program.depth_in (stmt_typed here kind) ≡ read.depth_in kind
  same_depth_in here (reg i ty start) = refl
  same_depth_in here (sram i ty dims) = refl
  same_depth_in here (fifo i ty depth) = refl
  same_depth_in here (line_buffer i ty rows columns) = refl
  same_depth_in here (bind i e) = refl
  same_depth_in here (set i e) = write_depth (is_output (symbol_at here i)) _ _
  same_depth_in here (set_at i indices e) = refl
  same_depth_in here (enq i e) = refl
  same_depth_in here (load onto from spans) = load_depth (is_line (symbol_at here onto)) _ _ _
  same_depth_in here (store onto spans from) = refl
  same_depth_in here (gather onto from places count) = refl
  same_depth_in here (scatter onto places count from) = refl
  same_depth_in here (block style ss) = ap (λ n. 1 + n) (same_depth here ss)
  same_depth_in here (foreach h ss) = ap (λ n. 1 + n) (same_depth (in_loop here h.binds) ss)
  same_depth_in here (reduce h ss acc v c) = ap (λ n. 1 + n) (same_depth (in_loop here h.binds) ss)
  same_depth_in here (fold h ss acc v c) = ap (λ n. 1 + n) (same_depth (in_loop here h.binds) ss)
  same_depth_in here (mem_reduce h ss acc v c) = ap (λ n. 1 + n) (same_depth (in_loop here h.binds) ss)
  same_depth_in here (fsm start tested test now ss last next) = ap (λ n. 1 + n) (same_depth (in_fsm here now (type_by_itself here start)) ss)
  same_depth_in here (branch test first second) = ap (λ n. 1 + n) (both_max _ _ _ _ (same_depth here first) (same_depth (past_body here first) second))
