-- A body that keeps the rules has no refusals.
use Rattle.std.proofs.Common.{◌≡◌, ℕ, suc, Bool, true, false, not, ◌||◌, List, [], ◌∷◌, ◌++◌, length, Option, Some, None, is_none, is_some, refl, sym, ap, ◌∙◌}
use Rattle.std.specs.Prelude.{nat_eq}
use Rattle.std.specs.Cmp.Lexicographic.{pointwise}
use Rattle.std.proofs.lemmas.Slice.Eq.{bytes_eq-Decides}
use native.Mathlib.Numerals.{unary_clauses}
use Rattle.sp_words.specs.declared.kind.Kind.TheVariants.{Reg, Sram, Fifo, ArgOut}
use Rattle.sp_words.specs.declared.types.Ty.{Ty}
use Rattle.sp_words.specs.declared.types.Ty.TheVariants.{Bit}
use Rattle.sp_words.specs.Types.{int_type}
use Rattle.sp_reader.specs.declared.syntax.expression.SynTy.{SynTy}
use Rattle.sp_reader.specs.PlainTree.{PlainIdent, PlainDigits, PlainLit, number_lit, truth_lit, PlainExpr, place_of_expr, row}
use Rattle.sp_reader.specs.PlainStatement.{PlainCounter, PlainComb, PlainStmtKind, PlainStmts, stmt, reg, sram, fifo, line_buffer, bind, set, set_at, enq, load, store, gather, scatter, block, foreach, reduce, fold, mem_reduce, fsm, branch, no_stmt, more_stmt}
use Rattle.sp_types.proofs.GrowthLemmas.{Grows, grows_on, grows_binds, grows_acc, grows_all}
use Rattle.sp_types.specs.declared.own.Own.TheVariants.{Known}
use Rattle.sp_types.specs.declared.refusal.Refusal.{Refusal}
use Rattle.sp_types.specs.declared.refusal.Rule.TheVariants.{Misused}
use Rattle.sp_types.specs.Expressions.{name_refusals, type_refusals, expr_refusals, exprs_refusals, literal_refusals, other_type, index_count}
use Rattle.sp_types.specs.First.{refused}
use Rattle.sp_types.specs.Literal.{literal_word}
use Rattle.sp_types.specs.Spans.{twice, with_binds, comb_refusals}
use Rattle.sp_types.specs.Statements as rule
use Rattle.sp_types.specs.Types.{is_type, own, own_or_int, own_type, symbol_type, type_of}
use Rattle.sp_types.specs.Visible.{PlainSymbol, memory, value, counter, Visible, symbol_of, declare}
use Rattle.sp_typing.proofs.FindLemmas.{symbol_grows}
use Rattle.sp_rules.specs.ExpressionRules.{Names, IsRight}
use Rattle.sp_rules.specs.SpanRules.{IsNew, Combines}
use Rattle.sp_rules.specs.StatementRules.{IsStart, IsDeclared, IsWritten, IsMemory, IsPart, IsRightBody, IsRightStmt}
use Rattle.sp_rules.proofs.BasicLemmas as none
use Rattle.sp_rules.proofs.BasicLemmas.{no_if, not_true, some_same, type_same, both, count_none, name_none}
use Rattle.sp_rules.proofs.ExpressionNone.{expr_none, exprs_none, fits_type, no_must}
use Rattle.sp_rules.proofs.ExpressionNone as fits
use Rattle.sp_rules.proofs.SpanLemmas.{new_none, head_none, comb_none}
use Rattle.sp_rules.proofs.SparseLemmas.{gather_none, scatter_none}
use Rattle.sp_rules.proofs.TransferLemmas.{kind_none, load_none, store_none}

-- ---- declarations

written_none : (written : SynTy) (ty : Ty) → type_of written ≡ Some ty → type_refusals written ≡ []
written_none written ty e = no_if _ _ (ap is_none e)

given_none : (seen : Visible) (i : PlainIdent) (written : SynTy) (ty : Ty) → IsNew seen i → type_of written ≡ Some ty → rule.declaration_refusals seen i written ≡ []
given_none seen i written ty new e = none.two (twice seen i) (type_refusals written) (new_none seen i new) (written_none written ty e)

pub declared_none : (seen : Visible) (i : PlainIdent) (written : SynTy) → IsDeclared seen i written → rule.declaration_refusals seen i written ≡ []
declared_none seen i written h = given_none seen i written h.0 h.1 h.2

literal_none : (place : ℕ) (ty : Ty) (d : PlainDigits) (w : ℕ) → literal_word ty d ≡ Some w → literal_refusals place (Some ty) d ≡ []
literal_none place ty d w e = no_if _ _ (ap is_none e)

start_at : (ty : Ty) (start : Option PlainLit) → IsStart ty start → rule.start_refusals (Some ty) start ≡ []
start_at ty None h = refl
start_at ty (Some (number_lit d None)) h = literal_none d.place ty d h.0 h.1
start_at ty (Some (number_lit d (Some target))) h =
    none.three (other_type d.place (Some ty) (own_type (type_of target))) (literal_refusals d.place (type_of target) d) (type_refusals target)
    (fits.other_none d.place ty (own_type (type_of target)) (fits_type (type_of target) ty h.1))
    (ap (λ o. literal_refusals d.place o d) h.1 ∙ literal_none d.place ty d h.0 h.2)
    (written_none target ty h.1)
start_at ty (Some (truth_lit place b)) h = fits.other_none place ty (Known Bit) (sym h)

start_none : (o : Option Ty) (ty : Ty) (start : Option PlainLit) → o ≡ Some ty → IsStart ty start → rule.start_refusals o start ≡ []
start_none o ty start e h = ap (λ x. rule.start_refusals x start) e ∙ start_at ty start h

-- ---- writes

bare_none : (place : ℕ) (s : PlainSymbol) (ty : Ty) → IsWritten s ty → rule.bare_write place (Some s) ≡ []
bare_none place (memory Reg t dims) ty h = refl
bare_none place (memory ArgOut t dims) ty h = refl
bare_none place (memory _ t dims) ty h = absurd h
bare_none place (value t) ty h = absurd h
bare_none place counter ty h = absurd h

written_type : (s : PlainSymbol) (ty : Ty) → IsWritten s ty → symbol_type (Some s) ≡ Some ty
written_type (memory Reg t dims) ty h = h
written_type (memory ArgOut t dims) ty h = h
written_type (memory _ t dims) ty h = absurd h
written_type (value t) ty h = absurd h
written_type counter ty h = absurd h

pub row_count : (es : List PlainExpr) → index_count (row es) ≡ length es
row_count [] = refl
row_count (e ∷ es) = simp unary_clauses (ap suc (row_count es))

word_none : (seen : Visible) (want : Option Ty) (ty : Ty) (e : PlainExpr) → want ≡ Some ty → IsRight seen false ty e → expr_refusals seen (rule.word want) e ≡ []
word_none seen want ty e w h = expr_none seen (rule.word want) ty e w (λ n. no_must n) h

still_none : (seen : Visible) (want : Option Ty) (ty : Ty) (e : PlainExpr) → want ≡ Some ty → IsRight seen true ty e → expr_refusals seen (rule.still want) e ≡ []
still_none seen want ty e w h = expr_none seen (rule.still want) ty e w (λ n. no_must n) h

-- ---- accumulators

part_of : (o : Option PlainIdent) (i : PlainIdent) (outside : Bool) (inside : Visible) (acc : List ℕ) (e : PlainExpr) → o ≡ Some i → rule.part_name outside inside acc i ≡ []
    → (elim o as (λ _. List Refusal) [ Some j ↦ rule.part_name outside inside acc j | None ↦ expr_refusals inside (rule.word None) e ++ refused (place_of_expr e) Misused ∷ [] ]) ≡ []
part_of None i outside inside acc e is none = absurd (cc)
part_of (Some j) i outside inside acc e is none = ap (λ x. rule.part_name outside inside acc x) (some_same j i is) ∙ none

nothing_wrong : (a b : Bool) → a ≡ false → b ≡ true → (a || not b) ≡ false
nothing_wrong a b e f = ap (λ x. x || not b) e ∙ ap not f

alike : (ty : Ty) (dims : List ℕ) → rule.fits_acc (Some (memory Sram (Some ty) dims)) (Some (memory Sram (Some ty) dims)) ≡ true
alike ty dims = both (is_type ty ty) (pointwise nat_eq dims dims) (type_same ty) ((bytes_eq-Decides dims dims).1 refl)

part_none : (before inside : Visible) (acc : List ℕ) (v : PlainExpr) (ty : Ty) (dims : List ℕ) → symbol_of inside acc ≡ Some (memory Sram (Some ty) dims) → IsPart before inside v ty dims
    → rule.part_if (rule.is_visible before v) inside acc v ≡ []
part_none before inside acc v ty dims acc_is h =
    let i = h.0 in
    let outside : rule.is_visible before v ≡ false = ap (rule.visible_name before) h.1 ∙ ap is_some h.2 in
    let fits : rule.fits_acc (symbol_of inside acc) (symbol_of inside i.text) ≡ true = ap (λ x. rule.fits_acc x (symbol_of inside i.text)) acc_is ∙ ap (rule.fits_acc (Some (memory Sram (Some ty) dims))) h.3.is ∙ alike ty dims in
    part_of (rule.bare_name v) i (rule.is_visible before v) inside acc v h.1
    (none.two (name_refusals inside i) _ (name_none inside i (memory Sram (Some ty) dims) h.3) (no_if _ _ (nothing_wrong _ _ outside fits)))

pub grows_end : (seen : Visible) (binds : List PlainIdent) (acc : PlainIdent) (ss : PlainStmts) → Grows seen (rule.after_all (rule.acc_inside seen binds acc) ss)
grows_end seen binds acc ss =
    grows_on seen _ _ (grows_on seen _ _ (grows_binds seen binds) (grows_acc (with_binds seen binds) acc.text)) (grows_all (rule.acc_inside seen binds acc) ss)

pub acc_type : (seen : Visible) (i : PlainIdent) (s : PlainSymbol) (ty : Ty) → Names seen i s → symbol_type (Some s) ≡ Some ty → symbol_type (symbol_of seen i.text) ≡ Some ty
acc_type seen i s ty n e = ap symbol_type n.is ∙ e

-- a Reduce or a Fold
reduced_none : (seen : Visible) (cs : List PlainCounter) (binds : List PlainIdent) (acc : PlainIdent) (ty : Ty) (dims : List ℕ) → IsMemory seen acc Reg ty dims
    → (of_body : List Refusal) (end : Visible) (v : PlainExpr) (c : PlainComb) → rule.head_refusals seen cs binds ≡ [] → of_body ≡ [] → IsRight end false ty v → Combines ty c
    → rule.reduced seen cs binds acc of_body end v c ≡ []
reduced_none seen cs binds acc ty dims n of_body end v c head of_none right comb =
    let known_as = acc_type seen acc (memory Reg (Some ty) dims) ty n refl in
    none.three (rule.acc_refusals seen Reg cs binds acc) of_body (rule.value_refusals (symbol_type (symbol_of seen acc.text)) end v c)
    (none.two (rule.kind_use seen Reg acc) (rule.head_refusals seen cs binds) (kind_none seen acc Reg ty dims n) head) of_none
    (none.two (expr_refusals end (rule.word (symbol_type (symbol_of seen acc.text))) v) (comb_refusals (symbol_type (symbol_of seen acc.text)) c)
    (word_none end (symbol_type (symbol_of seen acc.text)) ty v known_as right) (comb_none (symbol_type (symbol_of seen acc.text)) ty c known_as comb))

-- what is given to the state of an FSM
state_as : {A : Type 0} (f : Option Ty → A) (own_ty : Option Ty) (ty : Ty) → own_ty ≡ Some ty → f own_ty ≡ f (Some ty)
state_as f own_ty ty e = ap f e

-- ---- statements

mutual
  pub body_none : (seen : Visible) (ss : PlainStmts) → IsRightBody seen ss → rule.body_refusals seen ss ≡ []
  body_none seen no_stmt h = refl
  body_none seen (more_stmt (stmt place kind) rest) h =
      none.two (rule.stmt_refusals seen place kind) (rule.body_refusals (rule.after seen kind) rest) (stmt_none seen place kind h.0) (body_none (rule.after seen kind) rest h.1)

  stmt_none : (seen : Visible) (place : ℕ) (kind : PlainStmtKind) → IsRightStmt seen kind → rule.stmt_refusals seen place kind ≡ []
  stmt_none seen place (reg i written start) h =
      none.two (rule.declaration_refusals seen i written) (rule.start_refusals (type_of written) start) (given_none seen i written h.0 h.1 h.2) (start_none (type_of written) h.0 start h.2 h.3)
  stmt_none seen place (sram i written dims) h = declared_none seen i written h
  stmt_none seen place (fifo i written depth) h = declared_none seen i written h
  stmt_none seen place (line_buffer i written rows columns) h = declared_none seen i written h
  stmt_none seen place (bind i e) h =
      none.two (twice seen i) (expr_refusals seen (rule.word (own_or_int (own seen e))) e) (new_none seen i h.1) (word_none seen (own_or_int (own seen e)) h.0 e h.2 h.3)
  stmt_none seen place (set i e) h =
      let n = h.1.1 in
      none.two (rule.set_refusals seen i) (expr_refusals seen (rule.word (symbol_type (symbol_of seen i.text))) e)
      (none.two (name_refusals seen i) (rule.bare_write i.place (symbol_of seen i.text)) (name_none seen i h.1.0 n) (ap (rule.bare_write i.place) n.is ∙ bare_none i.place h.1.0 h.0 h.1.2))
      (word_none seen (symbol_type (symbol_of seen i.text)) h.0 e (acc_type seen i h.1.0 h.0 n (written_type h.1.0 h.0 h.1.2)) h.2)
  stmt_none seen place (set_at i indices e) h =
      let n = h.1.1 in
      let got = index_count (row indices) in
      none.four (name_refusals seen i) (rule.indexed_write i.place (symbol_of seen i.text) got) (exprs_refusals seen (rule.word (Some int_type)) (row indices))
      (expr_refusals seen (rule.word (symbol_type (symbol_of seen i.text))) e)
      (name_none seen i (memory Sram (Some h.0) h.1.0) n)
      (ap (λ o. rule.indexed_write i.place o got) n.is ∙ count_none i.place (length h.1.0) got (h.1.2 ∙ sym (row_count indices)))
      (exprs_none seen (rule.word (Some int_type)) int_type (row indices) refl (λ m. no_must m) h.2)
      (word_none seen (symbol_type (symbol_of seen i.text)) h.0 e (acc_type seen i (memory Sram (Some h.0) h.1.0) h.0 n refl) h.3)
  stmt_none seen place (enq i e) h =
      none.two (rule.kind_use seen Fifo i) (expr_refusals seen (rule.word (symbol_type (symbol_of seen i.text))) e)
      (kind_none seen i Fifo h.0 h.1.0 h.1.1) (word_none seen (symbol_type (symbol_of seen i.text)) h.0 e (acc_type seen i (memory Fifo (Some h.0) h.1.0) h.0 h.1.1 refl) h.2)
  stmt_none seen place (load onto from spans) h = load_none seen place onto from spans h
  stmt_none seen place (store onto spans from) h = store_none seen place onto from spans h
  stmt_none seen place (gather onto from places count) h = gather_none seen place onto from places count h
  stmt_none seen place (scatter onto places count from) h = scatter_none seen place from onto places count h
  stmt_none seen place (block style ss) h = body_none seen ss h
  stmt_none seen place (foreach l ss) h =
      none.two (rule.head_refusals seen l.counters l.binds) (rule.body_refusals (with_binds seen l.binds) ss) (head_none seen l.counters l.binds h.0) (body_none (with_binds seen l.binds) ss h.1)
  stmt_none seen place (reduce l ss acc v c) h =
      let inside = rule.acc_inside seen l.binds acc in
      reduced_none seen l.counters l.binds acc h.0 h.1.0 h.1.1 (rule.body_refusals inside ss) (rule.after_all inside ss) v c (head_none seen l.counters l.binds h.2) (body_none inside ss h.3) h.4 h.5
  stmt_none seen place (fold l ss acc v c) h =
      let inside = rule.acc_inside seen l.binds acc in
      reduced_none seen l.counters l.binds acc h.0 h.1.0 h.1.1 (rule.body_refusals inside ss) (rule.after_all inside ss) v c (head_none seen l.counters l.binds h.2) (body_none inside ss h.3) h.4 h.5
  stmt_none seen place (mem_reduce l ss acc v c) h =
      let inside = rule.acc_inside seen l.binds acc in
      let end = rule.after_all inside ss in
      none.four (rule.acc_refusals seen Sram l.counters l.binds acc) (rule.body_refusals inside ss) (rule.part_if (rule.is_visible (with_binds seen l.binds) v) end acc.text v)
      (comb_refusals (symbol_type (symbol_of seen acc.text)) c)
      (none.two (rule.kind_use seen Sram acc) (rule.head_refusals seen l.counters l.binds) (kind_none seen acc Sram h.0 h.1 h.2) (head_none seen l.counters l.binds h.3))
      (body_none inside ss h.4)
      (part_none (with_binds seen l.binds) end acc.text v h.0 h.1 (symbol_grows seen end (grows_end seen l.binds acc ss) acc.text (memory Sram (Some h.0) h.1) h.2.is) h.5)
      (comb_none (symbol_type (symbol_of seen acc.text)) h.0 c (acc_type seen acc (memory Sram (Some h.0) h.1) h.0 h.2 refl) h.6)
  stmt_none seen place (fsm start tested test now ss last next) h =
      let state = rule.state seen start in
      none.three (rule.begin_refusals seen start tested test) (twice seen now ++ rule.body_refusals (rule.with_state seen start now) ss) (rule.next_refusals seen start last next)
      (none.two (expr_refusals seen (rule.still state) start) (twice seen tested ++ rule.test_refusals (rule.with_state seen start tested) test)
      (still_none seen state h.0 start h.1 h.2)
      (none.two (twice seen tested) (rule.test_refusals (rule.with_state seen start tested) test) (new_none seen tested h.3)
      (state_as (λ o. rule.test_refusals (declare seen tested.text (value o)) test) state h.0 h.1 ∙ still_none (declare seen tested.text (value (Some h.0))) (Some Bit) Bit test refl h.4)))
      (none.two (twice seen now) (rule.body_refusals (rule.with_state seen start now) ss) (new_none seen now h.5)
      (state_as (λ o. rule.body_refusals (declare seen now.text (value o)) ss) state h.0 h.1 ∙ body_none (declare seen now.text (value (Some h.0))) ss h.6))
      (none.two (twice seen last) (expr_refusals (rule.with_state seen start last) (rule.still state) next) (new_none seen last h.7)
      (state_as (λ o. expr_refusals (declare seen last.text (value o)) (rule.still state) next) state h.0 h.1 ∙ still_none (declare seen last.text (value (Some h.0))) state h.0 next h.1 h.8))
  stmt_none seen place (branch test first second) h =
      none.three (rule.test_refusals seen test) (rule.body_refusals seen first) (rule.body_refusals seen second)
      (still_none seen (Some Bit) Bit test refl h.0) (body_none seen first h.1) (body_none seen second h.2)
