-- A body without refusals keeps the rules.
use Rattle.std.proofs.Common.{◌≡◌, ℕ, ◌≤◌, Bool, true, false, not, ◌&&◌, ◌||◌, List, [], ◌∷◌, ◌++◌, length, Option, Some, None, refl, sym, ap, subst, ◌∙◌, true≢false, arith}
use Rattle.std.specs.Prelude.{All, nat_eq}
use Rattle.std.specs.Cmp.Lexicographic.{pointwise}
use Rattle.std.proofs.lemmas.List.Elements.{All-head, All-tail}
use Rattle.std.proofs.lemmas.Slice.Eq.{bytes_eq-Decides}
use Rattle.sp_words.specs.declared.kind.Kind.TheVariants.{Reg, Sram, Fifo, LineBuf, Dram, ArgIn, ArgOut}
use Rattle.sp_words.specs.declared.types.Ty.{Ty}
use Rattle.sp_words.specs.declared.types.Ty.TheVariants.{Bit}
use Rattle.sp_words.specs.Types.{int_type}
use Rattle.sp_reader.specs.declared.syntax.expression.SynTy.{SynTy}
use Rattle.sp_reader.specs.PlainTree.{PlainIdent, PlainDigits, PlainLit, number_lit, truth_lit, PlainExpr, place_of_expr, row}
use Rattle.sp_reader.specs.PlainStatement.{PlainHead, PlainComb, PlainStmtKind, PlainStmts, stmt, reg, sram, fifo, line_buffer, bind, set, set_at, enq, load, store, gather, scatter, block, foreach, reduce, fold, mem_reduce, fsm, branch, no_stmt, more_stmt}
use Rattle.sp_types.specs.declared.refusal.Refusal.{Refusal}
use Rattle.sp_types.specs.declared.refusal.Rule.TheVariants.{Misused}
use Rattle.sp_types.specs.Expressions.{name_refusals, type_refusals, expr_refusals, exprs_refusals, literal_refusals, other_type, index_count, is_kind, may_be}
use Rattle.sp_types.specs.First.{refused}
use Rattle.sp_types.specs.Literal.{literal_word}
use Rattle.sp_types.specs.Spans.{twice, with_binds, comb_refusals}
use Rattle.sp_types.specs.Statements as rule
use Rattle.sp_types.specs.Types.{is_type, own, own_or_int, own_type, symbol_type, type_of}
use Rattle.sp_types.specs.Visible.{PlainSymbol, memory, value, counter, Visible, symbol_of, declare}
use Rattle.sp_typed.proofs.ExpressionLemmas.{own_is, same_type, same_kind}
use Rattle.sp_typed.proofs.NoneLemmas.{both_none, three_none, four_none, not_noted, was_true}
use Rattle.sp_typed.proofs.VisibleLemmas.{HaveTypes}
use Rattle.sp_typed.specs.Expressions.{known}
use Rattle.sp_typed.specs.ReadTree.{IsReadExpr, AreReadExprs, IsReadHead, IsReadBody, IsReadStmt}
use Rattle.sp_typing.proofs.FindLemmas.{symbol_grows}
use Rattle.sp_rules.specs.StatementRules.{IsStart, IsDeclared, IsWritten, IsPart, IsRightBody, IsRightStmt}
use Rattle.sp_rules.proofs.BasicLemmas.{some_there, none_there, counted, name_kept}
use Rattle.sp_rules.proofs.ExpressionKept.{type_of_own, none_is, symbol_has, by_itself, expr_kept, exprs_kept}
use Rattle.sp_rules.proofs.KnownLemmas.{Known, known_declare, value_full, known_binds, known_acc, known_after, known_all}
use Rattle.sp_rules.proofs.SpanLemmas.{new_kept, head_kept, comb_kept}
use Rattle.sp_rules.proofs.SparseLemmas.{gather_kept, scatter_kept}
use Rattle.sp_rules.proofs.StatementNone.{row_count, grows_end, acc_type}
use Rattle.sp_rules.proofs.TransferLemmas.{Memory, memory_kept, kind_kept, load_kept, store_kept}

-- ---- declarations

pub declared_kept : (seen : Visible) (i : PlainIdent) (written : SynTy) → rule.declaration_refusals seen i written ≡ [] → IsDeclared seen i written
declared_kept seen i written none =
    let f = both_none (twice seen i) (type_refusals written) none in
    let t = some_there (type_of written) (not_noted _ _ f.1) in
    (t.0, new_kept seen i f.0, t.1)

word_there : (place : ℕ) (o : Option Ty) (ty : Ty) (d : PlainDigits) → o ≡ Some ty → literal_refusals place o d ≡ [] → (w : ℕ) × (literal_word ty d ≡ Some w)
word_there place o ty d e none = some_there (literal_word ty d) (not_noted _ _ (ap (λ x. literal_refusals place x d) (sym e) ∙ none))

start_kept : (ty : Ty) (start : Option PlainLit) → rule.start_refusals (Some ty) start ≡ [] → IsStart ty start
start_kept ty None none = tt
start_kept ty (Some (number_lit d None)) none = word_there d.place (Some ty) ty d refl none
start_kept ty (Some (number_lit d (Some target))) none =
    let f = three_none (other_type d.place (Some ty) (own_type (type_of target))) (literal_refusals d.place (type_of target) d) (type_refusals target) none in
    let e = type_of_own d.place ty (type_of target) (none_is (type_of target) (not_noted _ _ f.2)) f.0 in
    let w = word_there d.place (type_of target) ty d e f.1 in
    (w.0, e, w.1)
start_kept ty (Some (truth_lit place b)) none = own_is place ty Bit none

start_from : (o : Option Ty) (ty : Ty) (start : Option PlainLit) → o ≡ Some ty → rule.start_refusals o start ≡ [] → IsStart ty start
start_from o ty start e none = start_kept ty start (ap (λ x. rule.start_refusals x start) (sym e) ∙ none)

-- ---- writes

written_kept : (seen : Visible) (k : Known seen) (i : PlainIdent) (s : PlainSymbol) (place : ℕ) (ty : Ty) → symbol_of seen i.text ≡ Some s → symbol_type (Some s) ≡ Some ty → rule.bare_write place (Some s) ≡ [] → IsWritten s ty
written_kept seen k i (memory Reg t dims) place ty is e none = e
written_kept seen k i (memory ArgOut t dims) place ty is e none = e
written_kept seen k i (memory Sram t dims) place ty is e none =
    let some = k.dims i.text t dims is in
    let no_dims = counted place (length dims) 0 none in
    absurd (omega arith)
written_kept seen k i (memory _ t dims) place ty is e none = absurd (true≢false (not_noted _ _ none))
written_kept seen k i (value t) place ty is e none = absurd (true≢false (not_noted _ _ none))
written_kept seen k i counter place ty is e none = absurd (true≢false (not_noted _ _ none))

may_be_sram : (s : PlainSymbol) (place got : ℕ) → 1 ≤ got → rule.indexed_write place (Some s) got ≡ [] → may_be Sram (Some s) ≡ true
may_be_sram (memory Sram t dims) place got some none = refl
may_be_sram (memory Reg t dims) place got some none = absurd (let f = counted place 0 got none in omega arith)
may_be_sram (memory Fifo t dims) place got some none = absurd (let f = counted place 0 got none in omega arith)
may_be_sram (memory ArgOut t dims) place got some none = absurd (let f = counted place 0 got none in omega arith)
may_be_sram (memory LineBuf t dims) place got some none = absurd (cc)
may_be_sram (memory Dram t dims) place got some none = absurd (cc)
may_be_sram (memory ArgIn t dims) place got some none = absurd (cc)
may_be_sram (value t) place got some none = absurd (cc)
may_be_sram counter place got some none = absurd (cc)

row_read : (es : List PlainExpr) → All IsReadExpr es → AreReadExprs (row es)
row_read [] h = tt
row_read (e ∷ es) h = (All-head IsReadExpr e es h, row_read es (All-tail IsReadExpr e es h))

indexed_kept : (seen : Visible) (types : HaveTypes seen) (i : PlainIdent) (got : ℕ) → 1 ≤ got → name_refusals seen i ≡ [] → rule.indexed_write i.place (symbol_of seen i.text) got ≡ []
    → (m : Memory seen i Sram) × (length m.dims ≡ got)
indexed_kept seen types i got some named none =
    let n = name_kept seen i named in
    let may = may_be_sram n.0 i.place got some (ap (λ o. rule.indexed_write i.place o got) (sym n.1.is) ∙ none) in
    let m = memory_kept seen types i Sram named (ap (may_be Sram) n.1.is ∙ may) in
    (m, counted i.place (length m.dims) got (ap (λ o. rule.indexed_write i.place o got) (sym m.named.is) ∙ none))

-- ---- accumulators

named_part : (o : Option PlainIdent) (outside : Bool) (inside : Visible) (acc : List ℕ) (e : PlainExpr)
    → (elim o as (λ _. List Refusal) [ Some i ↦ rule.part_name outside inside acc i | None ↦ expr_refusals inside (rule.word None) e ++ refused (place_of_expr e) Misused ∷ [] ]) ≡ []
    → (i : PlainIdent) × (o ≡ Some i) × (rule.part_name outside inside acc i ≡ [])
named_part None outside inside acc e none =
    let f : refused (place_of_expr e) Misused ∷ [] ≡ [] = (both_none (expr_refusals inside (rule.word None) e) _ none).1 in
    absurd (cc)
named_part (Some i) outside inside acc e none = (i, refl, none)

both_false : (a b : Bool) → (a || not b) ≡ false → (a ≡ false) × (b ≡ true)
both_false true b e = absurd (true≢false e)
both_false false b e = (refl, was_true b e)

both_true : (a b : Bool) → (a && b) ≡ true → (a ≡ true) × (b ≡ true)
both_true true b e = (refl, e)
both_true false b e = absurd (true≢false (sym e))

fitting : (s : PlainSymbol) (t ty : Ty) (dims : List ℕ) → symbol_type (Some s) ≡ Some t → rule.fits_acc (Some (memory Sram (Some ty) dims)) (Some s) ≡ true → s ≡ memory Sram (Some ty) dims
fitting (memory kind (Some u) part) t ty dims e fits =
    let f = both_true (is_kind Sram kind) _ fits in
    let g = both_true (is_type ty u) (pointwise nat_eq dims part) f.1 in
    ap (λ k. memory k (Some u) part) (sym (same_kind Sram kind f.0)) ∙ ap (λ x. memory Sram (Some x) part) (sym (same_type ty u g.0)) ∙ ap (memory Sram (Some ty)) (sym ((bytes_eq-Decides dims part).0 g.1))
fitting (memory kind None part) t ty dims e fits = absurd (cc)
fitting (value u) t ty dims e fits = absurd (true≢false (sym fits))
fitting counter t ty dims e fits = absurd (true≢false (sym fits))

part_kept : (before inside : Visible) (acc : List ℕ) (v : PlainExpr) (ty : Ty) (dims : List ℕ) → HaveTypes inside → symbol_of inside acc ≡ Some (memory Sram (Some ty) dims)
    → rule.part_if (rule.is_visible before v) inside acc v ≡ [] → IsPart before inside v ty dims
part_kept before inside acc v ty dims types acc_is none =
    let o = named_part (rule.bare_name v) (rule.is_visible before v) inside acc v none in
    let i = o.0 in
    let f = both_none (name_refusals inside i) _ o.2 in
    let g = both_false (rule.is_visible before v) (rule.fits_acc (symbol_of inside acc) (symbol_of inside i.text)) (not_noted _ _ f.1) in
    let n = name_kept inside i f.0 in
    let fits = ap (λ x. rule.fits_acc x (Some n.0)) (sym acc_is) ∙ ap (rule.fits_acc (symbol_of inside acc)) (sym n.1.is) ∙ g.1 in
    let s = fitting n.0 (known (symbol_type (symbol_of inside i.text))) ty dims (symbol_has inside types i n.0 n.1) fits in
    (i, o.1, none_there (symbol_of before i.text) (ap (rule.visible_name before) (sym o.1) ∙ g.0), record { is = n.1.is ∙ ap Some s; free = n.1.free })

some_not_none : (o : Option Ty) (ty : Ty) → o ≡ Some ty → o ≡ None → ⊥
some_not_none o ty e f = absurd (let g = sym e ∙ f in cc)

-- with the state of an FSM
known_state : (seen : Visible) (k : Known seen) (text : List ℕ) (o : Option Ty) (ty : Ty) → o ≡ Some ty → Known (declare seen text (value (Some ty)))
known_state seen k text o ty e = known_declare seen text (value (Some ty)) k (value_full (Some ty) (λ f. absurd (cc)))

state_from : (f : Option Ty → List Refusal) (o : Option Ty) (ty : Ty) → o ≡ Some ty → f o ≡ [] → f (Some ty) ≡ []
state_from f o ty e none = ap f (sym e) ∙ none

-- a Reduce or a Fold, by its body
reduced_kept : (seen : Visible) (l : PlainHead) (ss : PlainStmts) (acc : PlainIdent) (v : PlainExpr) (c : PlainComb) → Known seen → IsReadHead l → IsReadBody ss → IsReadExpr v
    → rule.acc_refusals seen Reg l.counters l.binds acc ≡ [] → rule.body_refusals (rule.acc_inside seen l.binds acc) ss ≡ []
    → rule.value_refusals (symbol_type (symbol_of seen acc.text)) (rule.after_all (rule.acc_inside seen l.binds acc) ss) v c ≡ []
    → IsRightBody (rule.acc_inside seen l.binds acc) ss → IsRightStmt seen (reduce l ss acc v c)
reduced_kept seen l ss acc v c k read read_body read_value none of_none value_none right =
    let inside = rule.acc_inside seen l.binds acc in
    let end = rule.after_all inside ss in
    let ask = rule.word (symbol_type (symbol_of seen acc.text)) in
    let g = both_none (rule.kind_use seen Reg acc) (rule.head_refusals seen l.counters l.binds) none in
    let e = both_none (expr_refusals end ask v) (comb_refusals (symbol_type (symbol_of seen acc.text)) c) value_none in
    let m = kind_kept seen k.types acc Reg g.0 in
    let known_inside = known_acc (with_binds seen l.binds) acc.text (known_binds seen l.binds k) in
    let known_as = acc_type seen acc (memory Reg (Some m.ty) m.dims) m.ty m.named refl in (
      m.ty,
      (m.dims, m.named),
      head_kept seen k.types l.counters l.binds read.counters g.1,
      right,
      expr_kept end (known_all inside ss known_inside read_body of_none).types ask m.ty v known_as read_value e.0,
      comb_kept (symbol_type (symbol_of seen acc.text)) m.ty c known_as e.1,
    )

-- ---- statements

mutual
  pub body_kept : (seen : Visible) (ss : PlainStmts) → Known seen → IsReadBody ss → rule.body_refusals seen ss ≡ [] → IsRightBody seen ss
  body_kept seen no_stmt k read none = tt
  body_kept seen (more_stmt (stmt place kind) rest) k read none =
      let f = both_none (rule.stmt_refusals seen place kind) (rule.body_refusals (rule.after seen kind) rest) none in
      (stmt_kept seen place kind k read.0 f.0, body_kept (rule.after seen kind) rest (known_after seen place kind k read.0 f.0) read.1 f.1)

  stmt_kept : (seen : Visible) (place : ℕ) (kind : PlainStmtKind) → Known seen → IsReadStmt kind → rule.stmt_refusals seen place kind ≡ [] → IsRightStmt seen kind
  stmt_kept seen place (reg i written start) k read none =
      let f = both_none (rule.declaration_refusals seen i written) (rule.start_refusals (type_of written) start) none in
      let d = declared_kept seen i written f.0 in
      (d.0, d.1, d.2, start_from (type_of written) d.0 start d.2 f.1)
  stmt_kept seen place (sram i written dims) k read none = declared_kept seen i written none
  stmt_kept seen place (fifo i written depth) k read none = declared_kept seen i written none
  stmt_kept seen place (line_buffer i written rows columns) k read none = declared_kept seen i written none
  stmt_kept seen place (bind i e) k read none =
      let ask = rule.word (own_or_int (own seen e)) in
      let f = both_none (twice seen i) (expr_refusals seen ask e) none in
      let own_is = by_itself seen k.types ask e f.1 in
      (known (own_or_int (own seen e)), new_kept seen i f.0, own_is, expr_kept seen k.types ask (known (own_or_int (own seen e))) e own_is read.1 f.1)
  stmt_kept seen place (set i e) k read none =
      let ask = rule.word (symbol_type (symbol_of seen i.text)) in
      let f = both_none (rule.set_refusals seen i) (expr_refusals seen ask e) none in
      let g = both_none (name_refusals seen i) (rule.bare_write i.place (symbol_of seen i.text)) f.0 in
      let n = name_kept seen i g.0 in
      let ty = known (symbol_type (symbol_of seen i.text)) in
      let has = symbol_has seen k.types i n.0 n.1 in
      (ty, (n.0, n.1, written_kept seen k i n.0 i.place ty n.1.is has (ap (rule.bare_write i.place) (sym n.1.is) ∙ g.1)), expr_kept seen k.types ask ty e (acc_type seen i n.0 ty n.1 has) read f.1)
  stmt_kept seen place (set_at i indices e) k read none =
      let ask = rule.word (symbol_type (symbol_of seen i.text)) in
      let got = index_count (row indices) in
      let f = four_none (name_refusals seen i) (rule.indexed_write i.place (symbol_of seen i.text) got) (exprs_refusals seen (rule.word (Some int_type)) (row indices)) (expr_refusals seen ask e) none in
      let m = indexed_kept seen k.types i got (subst (λ n. 1 ≤ n) (sym (row_count indices)) read.0) f.0 f.1 in (
        m.0.ty,
        (m.0.dims, m.0.named, m.1 ∙ row_count indices),
        exprs_kept seen k.types (rule.word (Some int_type)) int_type (row indices) refl (row_read indices read.1) f.2,
        expr_kept seen k.types ask m.0.ty e (acc_type seen i (memory Sram (Some m.0.ty) m.0.dims) m.0.ty m.0.named refl) read.2 f.3,
      )
  stmt_kept seen place (enq i e) k read none =
      let ask = rule.word (symbol_type (symbol_of seen i.text)) in
      let f = both_none (rule.kind_use seen Fifo i) (expr_refusals seen ask e) none in
      let m = kind_kept seen k.types i Fifo f.0 in
      (m.ty, (m.dims, m.named), expr_kept seen k.types ask m.ty e (acc_type seen i (memory Fifo (Some m.ty) m.dims) m.ty m.named refl) read f.1)
  stmt_kept seen place (load onto from spans) k read none = load_kept seen k.types place onto from spans read none
  stmt_kept seen place (store onto spans from) k read none = store_kept seen k.types place onto from spans read none
  stmt_kept seen place (gather onto from places count) k read none = gather_kept seen place onto from places count k.types read none
  stmt_kept seen place (scatter onto places count from) k read none = scatter_kept seen place from onto places count k.types read none
  stmt_kept seen place (block style ss) k read none = body_kept seen ss k read none
  stmt_kept seen place (foreach l ss) k read none =
      let f = both_none (rule.head_refusals seen l.counters l.binds) (rule.body_refusals (with_binds seen l.binds) ss) none in
      (head_kept seen k.types l.counters l.binds read.0.counters f.0, body_kept (with_binds seen l.binds) ss (known_binds seen l.binds k) read.1 f.1)
  stmt_kept seen place (reduce l ss acc v c) k read none =
      let inside = rule.acc_inside seen l.binds acc in
      let f = three_none (rule.acc_refusals seen Reg l.counters l.binds acc) (rule.body_refusals inside ss)
      (rule.value_refusals (symbol_type (symbol_of seen acc.text)) (rule.after_all inside ss) v c) none in
      reduced_kept seen l ss acc v c k read.0 read.1 read.2 f.0 f.1 f.2 (body_kept inside ss (known_acc (with_binds seen l.binds) acc.text (known_binds seen l.binds k)) read.1 f.1)
  stmt_kept seen place (fold l ss acc v c) k read none =
      let inside = rule.acc_inside seen l.binds acc in
      let f = three_none (rule.acc_refusals seen Reg l.counters l.binds acc) (rule.body_refusals inside ss)
      (rule.value_refusals (symbol_type (symbol_of seen acc.text)) (rule.after_all inside ss) v c) none in
      reduced_kept seen l ss acc v c k read.0 read.1 read.2 f.0 f.1 f.2 (body_kept inside ss (known_acc (with_binds seen l.binds) acc.text (known_binds seen l.binds k)) read.1 f.1)
  stmt_kept seen place (mem_reduce l ss acc v c) k read none =
      let inside = rule.acc_inside seen l.binds acc in
      let end = rule.after_all inside ss in
      let f = four_none (rule.acc_refusals seen Sram l.counters l.binds acc) (rule.body_refusals inside ss) (rule.part_if (rule.is_visible (with_binds seen l.binds) v) end acc.text v)
      (comb_refusals (symbol_type (symbol_of seen acc.text)) c) none in
      let g = both_none (rule.kind_use seen Sram acc) (rule.head_refusals seen l.counters l.binds) f.0 in
      let m = kind_kept seen k.types acc Sram g.0 in
      let known_inside = known_acc (with_binds seen l.binds) acc.text (known_binds seen l.binds k) in (
        m.ty,
        m.dims,
        m.named,
        head_kept seen k.types l.counters l.binds read.0.counters g.1,
        body_kept inside ss known_inside read.1 f.1,
        part_kept (with_binds seen l.binds) end acc.text v m.ty m.dims (known_all inside ss known_inside read.1 f.1).types
            (symbol_grows seen end (grows_end seen l.binds acc ss) acc.text (memory Sram (Some m.ty) m.dims) m.named.is) f.2,
        comb_kept (symbol_type (symbol_of seen acc.text)) m.ty c (acc_type seen acc (memory Sram (Some m.ty) m.dims) m.ty m.named refl) f.3,
      )
  stmt_kept seen place (fsm start tested test now ss last next) k read none =
      let state = rule.state seen start in
      let f = three_none (rule.begin_refusals seen start tested test) (twice seen now ++ rule.body_refusals (rule.with_state seen start now) ss) (rule.next_refusals seen start last next) none in
      let b = both_none (expr_refusals seen (rule.still state) start) (twice seen tested ++ rule.test_refusals (rule.with_state seen start tested) test) f.0 in
      let t = both_none (twice seen tested) (rule.test_refusals (rule.with_state seen start tested) test) b.1 in
      let g = both_none (twice seen now) (rule.body_refusals (rule.with_state seen start now) ss) f.1 in
      let n = both_none (twice seen last) (expr_refusals (rule.with_state seen start last) (rule.still state) next) f.2 in
      let own_is = by_itself seen k.types (rule.still state) start b.0 in
      let ty = known (own_or_int (own seen start)) in
      let in_test = declare seen tested.text (value (Some ty)) in
      let in_next = declare seen last.text (value (Some ty)) in (
        ty,
        own_is,
        expr_kept seen k.types (rule.still state) ty start own_is read.0 b.0,
        new_kept seen tested t.0,
        expr_kept in_test (known_state seen k tested.text state ty own_is).types (rule.still (Some Bit)) Bit test refl read.2
            (state_from (λ o. rule.test_refusals (declare seen tested.text (value o)) test) state ty own_is t.1),
        new_kept seen now g.0,
        body_kept (declare seen now.text (value (Some ty))) ss (known_state seen k now.text state ty own_is) read.4 (state_from (λ o. rule.body_refusals (declare seen now.text (value o)) ss) state ty own_is g.1),
        new_kept seen last n.0,
        expr_kept in_next (known_state seen k last.text state ty own_is).types (rule.still state) ty next own_is read.6
            (state_from (λ o. expr_refusals (declare seen last.text (value o)) (rule.still state) next) state ty own_is n.1),
      )
  stmt_kept seen place (branch test first second) k read none =
      let f = three_none (rule.test_refusals seen test) (rule.body_refusals seen first) (rule.body_refusals seen second) none in
      (expr_kept seen k.types (rule.still (Some Bit)) Bit test refl read.0 f.0, body_kept seen first k read.1 f.1, body_kept seen second k read.2 f.2)
