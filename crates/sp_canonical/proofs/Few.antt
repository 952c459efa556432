-- The literals of a program's tree have at most 64 digits behind the point.
use Rattle.std.proofs.Common.{◌≤◌, ℕ, List, [], ◌∷◌, length, Option, Some, None, sym, ap, subst}
use Rattle.sp_words.specs.declared.types.Ty.{Ty}
use Rattle.sp_words.specs.declared.types.Ty.TheVariants.{Fix}
use Rattle.sp_words.specs.Decimal.{whole_part, fraction_digits}
use Rattle.sp_words.specs.Words.{has_sign}
use Rattle.sp_words.proofs.NumberTextLemmas.{printed, read_again}
use Rattle.sp_reader.specs.PlainTree.{PlainDigits, PlainLit, number_lit, truth_lit, PlainExpr, PlainExprKind, PlainExprs, expr, number, truth, name, deq, access, mux, min, max, one, two, shift, cast, no_expr, more_expr, row}
use Rattle.sp_reader.specs.PlainStatement.{PlainSpan, single, range, PlainCounter, PlainStmt, PlainStmtKind, PlainStmts, stmt, reg, sram, fifo, line_buffer, bind, set, set_at, enq, load, store, gather, scatter, block, foreach, reduce, fold, mem_reduce, fsm, branch, no_stmt, more_stmt}
use Rattle.sp_tree.specs.PlainExpression as program
use Rattle.sp_tree.specs.PlainProgram.{PlainMem}
use Rattle.sp_tree.specs.PlainStatement as program_of
use Rattle.sp_printer.specs.Names.{Names}
use Rattle.sp_printer.specs.Words.{word_at}
use Rattle.sp_printed.specs.Trees.{IsLiteral, IsTree, AreTrees}
use Rattle.sp_printed.specs.LoopTrees.{IsSpanTree, AreSpanTrees, IsFromTree, AreCounterTrees}
use Rattle.sp_printed.specs.StatementTrees.{IsStartTree, IsDeclareTree, IsStmtTree, IsBodyTree}
use Rattle.sp_printed.proofs.Literals.{word_kept}

-- ---- few digits

abbrev mutual
  pub FewExpr : PlainExpr → Type 0
  FewExpr (expr place kind) = FewIn kind

  pub FewIn : PlainExprKind → Type 0
  FewIn (number d) = length d.digits ≤ 64
  FewIn (truth b) = Unit {0}
  FewIn (name i dotted) = Unit {0}
  FewIn (deq i) = Unit {0}
  FewIn (access i indices) = FewExprs indices
  FewIn (mux c a b) = FewExpr c × FewExpr a × FewExpr b
  FewIn (min a b) = FewExpr a × FewExpr b
  FewIn (max a b) = FewExpr a × FewExpr b
  FewIn (one o a) = FewExpr a
  FewIn (two o a b) = FewExpr a × FewExpr b
  FewIn (shift left a by) = FewExpr a
  FewIn (cast a ty) = FewExpr a

  pub FewExprs : PlainExprs → Type 0
  FewExprs no_expr = Unit {0}
  FewExprs (more_expr e rest) = FewExpr e × FewExprs rest

abbrev pub FewLit : PlainLit → Type 0
FewLit (number_lit d target) = length d.digits ≤ 64
FewLit (truth_lit place b) = Unit {0}

abbrev pub FewStart : Option PlainLit → Type 0
FewStart None = Unit {0}
FewStart (Some l) = FewLit l

abbrev pub FewSpan : PlainSpan → Type 0
FewSpan (single e) = FewExpr e
FewSpan (range a b par) = FewExpr a × FewExpr b

abbrev pub FewSpans : List PlainSpan → Type 0
FewSpans [] = Unit {0}
FewSpans (s ∷ rest) = FewSpan s × FewSpans rest

abbrev pub FewBounds : Option PlainExpr → PlainExpr → Type 0
FewBounds None b = FewExpr b
FewBounds (Some a) b = FewExpr a × FewExpr b

abbrev pub FewCounter : PlainCounter → Type 0
FewCounter c = FewBounds c.from c.until

abbrev pub FewCounters : List PlainCounter → Type 0
FewCounters [] = Unit {0}
FewCounters (c ∷ rest) = FewCounter c × FewCounters rest

abbrev mutual
  pub FewBody : PlainStmts → Type 0
  FewBody no_stmt = Unit {0}
  FewBody (more_stmt s rest) = FewStmt s × FewBody rest

  pub FewStmt : PlainStmt → Type 0
  FewStmt (stmt place kind) = FewKind kind

  pub FewKind : PlainStmtKind → Type 0
  FewKind (reg i ty start) = FewStart start
  FewKind (sram i ty dims) = Unit {0}
  FewKind (fifo i ty depth) = Unit {0}
  FewKind (line_buffer i ty rows columns) = Unit {0}
  FewKind (bind i e) = FewExpr e
  FewKind (set i e) = FewExpr e
  FewKind (set_at i indices e) = FewExprs (row indices) × FewExpr e
  FewKind (enq i e) = FewExpr e
  FewKind (load onto from spans) = FewSpans spans
  FewKind (store onto spans from) = FewSpans spans
  FewKind (gather onto from places count) = FewExpr count
  FewKind (scatter onto places count from) = FewExpr count
  FewKind (block style ss) = FewBody ss
  FewKind (foreach h ss) = FewCounters h.counters × FewBody ss
  FewKind (reduce h ss acc v c) = FewCounters h.counters × FewBody ss × FewExpr v
  FewKind (fold h ss acc v c) = FewCounters h.counters × FewBody ss × FewExpr v
  FewKind (mem_reduce h ss acc v c) = FewCounters h.counters × FewBody ss × FewExpr v
  FewKind (fsm start tested test now ss last next) = FewExpr start × FewExpr test × FewBody ss × FewExpr next
  FewKind (branch test first second) = FewExpr test × FewBody first × FewBody second

-- ---- in a program's tree

few_digits : {w : ℕ} {d : PlainDigits} (ty : Ty) → IsLiteral ty w d → length d.digits ≤ 64
few_digits {w} {d} ty l =
    let kept = word_at ty w in
    let is = word_kept ty w in
    let few = (read_again ty kept (has_sign ty kept) (whole_part ty kept) (fraction_digits ty kept) is (printed ty kept is)).few in
    subst (λ n. n ≤ 64) (sym (ap (λ l. length l) l.digits)) few

module _ (names : Names) where
  mutual
    few_expr : {e : program.PlainExpr} {x : PlainExpr} → IsTree names e x → FewExpr x
    few_expr (IsTree.a_number {t = t} e l) = few_digits (Fix t) l
    few_expr (IsTree.a_typed_number {t = t} e l ty) = few_digits (Fix t) l
    few_expr IsTree.a_truth = tt
    few_expr (IsTree.a_counter text) = tt
    few_expr (IsTree.a_value text) = tt
    few_expr (IsTree.a_reg text) = tt
    few_expr (IsTree.an_arg text) = tt
    few_expr (IsTree.an_element text all) = few_exprs all
    few_expr (IsTree.a_row_element text x y) = (few_expr x, (few_expr y, tt))
    few_expr (IsTree.a_deq text) = tt
    few_expr (IsTree.negated x) = few_expr x
    few_expr (IsTree.turned x) = few_expr x
    few_expr (IsTree.denied x) = few_expr x
    few_expr (IsTree.operation call x y) = (few_expr x, few_expr y)
    few_expr (IsTree.least x y) = (few_expr x, few_expr y)
    few_expr (IsTree.greatest x y) = (few_expr x, few_expr y)
    few_expr (IsTree.shifted x) = few_expr x
    few_expr (IsTree.a_choice z x y) = (few_expr z, few_expr x, few_expr y)
    few_expr (IsTree.a_cast kept x ty) = few_expr x
    few_expr (IsTree.a_cast_number {t = t} e l ty) = few_digits (Fix t) l

    few_exprs : {es : program.PlainExprs} {xs : PlainExprs} → AreTrees names es xs → FewExprs xs
    few_exprs AreTrees.no_trees = tt
    few_exprs (AreTrees.more_trees x rest) = (few_expr x, few_exprs rest)

  few_span : {s : program_of.PlainSpan} {x : PlainSpan} → IsSpanTree names s x → FewSpan x
  few_span (IsSpanTree.an_index x) = few_expr x
  few_span (IsSpanTree.a_range x y par) = (few_expr x, few_expr y)

  few_spans : {spans : List program_of.PlainSpan} {xs : List PlainSpan} → AreSpanTrees names spans xs → FewSpans xs
  few_spans AreSpanTrees.no_spans = tt
  few_spans (AreSpanTrees.more_spans x rest) = (few_span x, few_spans rest)

  few_bounds : {e : program.PlainExpr} {x : Option PlainExpr} (b : PlainExpr) → IsFromTree names e x → FewExpr b → FewBounds x b
  few_bounds b (IsFromTree.from_zero z) h = h
  few_bounds b (IsFromTree.from z x) h = (few_expr x, h)

  few_counters : {cs : List program_of.PlainCounter} {xs : List PlainCounter} → AreCounterTrees names cs xs → FewCounters xs
  few_counters AreCounterTrees.no_counters = tt
  few_counters (AreCounterTrees.more_counters {x = x} c rest) = (few_bounds x.until c.from (few_expr c.until), few_counters rest)

  few_start : {ty : Ty} {start : Option ℕ} {l : Option PlainLit} → IsStartTree ty start l → FewStart l
  few_start IsStartTree.none = tt
  few_start (IsStartTree.number {t = t} e l) = few_digits (Fix t) l
  few_start (IsStartTree.typed_number {t = t} e l ty) = few_digits (Fix t) l
  few_start IsStartTree.truth = tt

  few_declared : {m : PlainMem} {x : PlainStmtKind} → IsDeclareTree m x → FewKind x
  few_declared (IsDeclareTree.a_reg k text ty start) = few_start start
  few_declared (IsDeclareTree.an_sram k text ty) = tt
  few_declared (IsDeclareTree.a_fifo k text ty dims) = tt
  few_declared (IsDeclareTree.a_line k text ty dims) = tt

  mutual
    pub few_body : {body : program_of.PlainStmts} {ss : PlainStmts} → IsBodyTree names body ss → FewBody ss
    few_body IsBodyTree.empty = tt
    few_body (IsBodyTree.more t rest) = (few_stmt t, few_body rest)

    few_stmt : {s : program_of.PlainStmtKind} {x : PlainStmtKind} → IsStmtTree names s x → FewKind x
    few_stmt (IsStmtTree.declared t) = few_declared t
    few_stmt (IsStmtTree.bound text t) = few_expr t
    few_stmt (IsStmtTree.reg_set text t) = few_expr t
    few_stmt (IsStmtTree.out_set text t) = few_expr t
    few_stmt (IsStmtTree.sram_set text all t) = (few_exprs all, few_expr t)
    few_stmt (IsStmtTree.put text t) = few_expr t
    few_stmt (IsStmtTree.sram_loaded text outer all) = few_spans all
    few_stmt (IsStmtTree.line_loaded text outer all) = few_spans all
    few_stmt (IsStmtTree.stored outer text all) = few_spans all
    few_stmt (IsStmtTree.gathered text outer index t) = few_expr t
    few_stmt (IsStmtTree.scattered outer index text t) = few_expr t
    few_stmt (IsStmtTree.blocked t) = few_body t
    few_stmt (IsStmtTree.looped head t) = (few_counters head.counters_are, few_body t)
    few_stmt (IsStmtTree.reduced head text t word comb) = (few_counters head.counters_are, few_body t, few_expr word)
    few_stmt (IsStmtTree.folded head text t word comb) = (few_counters head.counters_are, few_body t, few_expr word)
    few_stmt (IsStmtTree.mem_reduced head text t part comb) = (few_counters head.counters_are, few_body t, tt)
    few_stmt (IsStmtTree.machine start first test second t third next) = (few_expr start, few_expr test, few_body t, few_expr next)
    few_stmt (IsStmtTree.branched test t u) = (few_expr test, few_body t, few_body u)
