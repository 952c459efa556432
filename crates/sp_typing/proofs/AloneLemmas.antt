-- An expression without refusals names no accumulator around.
use Rattle.std.proofs.Common.{◌≡◌, ℕ, ◌+◌, ◌≤◌, Bool, true, false, not, ◌||◌, List, [], ◌∷◌, Option, Some, None, is_none, IsTrue, refl, sym, ap, ◌∙◌, true≢false, arith}
use Rattle.std.specs.Prelude.{All}
use Rattle.std.proofs.lemmas.Bool.{eqb-true}
use Rattle.std.proofs.lemmas.List.Elements.{All-head, All-tail}
use Rattle.sp_words.specs.declared.kind.Kind.TheVariants.{Reg, Fifo, ArgIn}
use Rattle.sp_words.specs.declared.types.Ty.{Ty}
use Rattle.sp_words.specs.declared.types.Ty.TheVariants.{Bit}
use Rattle.sp_words.specs.Types.{int_type}
use Rattle.sp_reader.specs.declared.syntax.expression.SynUn.TheVariants.{Minus, Bang, Tilde}
use Rattle.sp_reader.specs.PlainTree.{PlainDigits, PlainExpr, PlainExprKind, PlainExprs, expr, number, truth, name, deq, access, mux, min, max, one, two, shift, cast, no_expr, more_expr, place_of_expr}
use Rattle.sp_reader.specs.PlainStatement.{PlainSpan, single, range, PlainCounter}
use Rattle.sp_tree.specs.Footprint.{Names, KindNames, AllName, SpansName, CountersName}
use Rattle.sp_tree.specs.PlainExpression as program
use Rattle.sp_tree.specs.PlainProgram.{PlainProgram}
use Rattle.sp_tree.specs.Typing.{Scope, mem_at, all_but}
use Rattle.sp_types.specs.declared.own.Ask.{Ask}
use Rattle.sp_types.specs.Expressions as rule
use Rattle.sp_types.specs.Spans as spans
use Rattle.sp_types.specs.Visible.{PlainSymbol, memory, value, counter, Visible, symbol_of, is_busy}
use Rattle.sp_typed.proofs.NoneLemmas.{both_none, three_none, not_noted, was_true}
use Rattle.sp_typed.specs.Expressions.{number_if, symbol_if, named_word, digits_of, cast_if, line_element, element, is_line, number_of, symbol_at, operand_type, type_by_itself, typed, kind_typed, all_typed}
use Rattle.sp_typed.specs.Named.{Meant, Here, meant_by}
use Rattle.sp_typed.specs.ReadTree.{IsReadExpr, IsReadKind, AreReadExprs, IsReadSpan, IsReadFrom, IsReadCounter}
use Rattle.sp_typed.specs.Statements.{spans_typed, from_typed, counters_typed}
use Rattle.sp_typing.specs.Places.{NamedBy, Place, IsAround}
use Rattle.sp_typing.proofs.PlaceLemmas.{seen_is}
use Rattle.sp_typing.proofs.UsedLemmas.{other_than}

or_right : (a b : Bool) → (a || not b) ≡ false → b ≡ true
or_right true b h = absurd (true≢false h)
or_right false b h = was_true b h

counted : (want got : ℕ) (place : ℕ) → rule.count_refusals place want got ≡ [] → want ≡ got
counted want got place e = eqb-true want got (was_true _ (not_noted _ _ e))

module _ (p : PlainProgram) (scope : Scope) (here : Here) (seen : Visible) (at : Place p scope here.names seen.names) (acc : ℕ) (around : IsAround p seen acc) where
  abbrev is : ℕ → Bool
  is = all_but p acc

  -- ---- names

  apart : (text : List ℕ) (n : ℕ) → (mem_at p n).name ≡ text → is_busy seen text ≡ false → IsTrue (is n)
  apart text n named free = other_than p seen acc n around (ap (is_busy seen) named ∙ free)

  word_alone : (text : List ℕ) (s : PlainSymbol) (n : ℕ) → NamedBy p s n text → is_busy seen text ≡ false → KindNames is (named_word n (Some s))
  word_alone text (memory Reg ty dims) n h free = apart text n h free
  word_alone text (memory ArgIn ty dims) n h free = apart text n h free
  word_alone text (memory _ ty dims) n h free = tt
  word_alone text (value ty) n h free = tt
  word_alone text counter n h free = tt

  named_alone : (text : List ℕ) (o : Option Meant) → ((m : Meant) → o ≡ Some m → NamedBy p m.symbol m.number text) → is_busy seen text ≡ false → KindNames is (named_word (number_if o) (symbol_if o))
  named_alone text None h free = tt
  named_alone text (Some m) h free = word_alone text m.symbol m.number (h m refl) free

  fifo_alone : (text : List ℕ) (s : PlainSymbol) (n : ℕ) → NamedBy p s n text → is_busy seen text ≡ false → rule.may_be Fifo (Some s) ≡ true → IsTrue (is n)
  fifo_alone text (memory kind ty dims) n h free may = apart text n h free
  fifo_alone text (value ty) n h free may = absurd (true≢false (sym may))
  fifo_alone text counter n h free may = absurd (true≢false (sym may))

  deq_alone : (text : List ℕ) (o : Option Meant) → ((m : Meant) → o ≡ Some m → NamedBy p m.symbol m.number text) → is_none (symbol_if o) ≡ false → is_busy seen text ≡ false
      → rule.may_be Fifo (symbol_if o) ≡ true → IsTrue (is (number_if o))
  deq_alone text None h some free may = absurd (true≢false some)
  deq_alone text (Some m) h some free may = fifo_alone text m.symbol m.number (h m refl) free may

  line_alone : (n : ℕ) (es : program.PlainExprs) → IsTrue (is n) → AllName is es → KindNames is (line_element n es)
  line_alone n program.no_expr e h = tt
  line_alone n (program.more_expr a program.no_expr) e h = tt
  line_alone n (program.more_expr a (program.more_expr b program.no_expr)) e h = (e, h.0, h.1.0)
  line_alone n (program.more_expr a (program.more_expr b (program.more_expr c rest))) e h = tt

  element_alone : (line : Bool) (n : ℕ) (es : program.PlainExprs) → IsTrue (is n) → AllName is es → KindNames is (element line n es)
  element_alone true n es e h = line_alone n es e h
  element_alone false n es e h = (e, h)

  -- what has indices is a memory
  indexed_alone : (text : List ℕ) (s : PlainSymbol) (n : ℕ) (place got : ℕ) → NamedBy p s n text → is_busy seen text ≡ false → 1 ≤ got → rule.access_refusals place (Some s) got ≡ [] → IsTrue (is n)
  indexed_alone text (memory kind ty dims) n place got h free some none = apart text n h free
  indexed_alone text (value ty) n place got h free some none = absurd (let f = counted 0 got place none in omega arith)
  indexed_alone text counter n place got h free some none = absurd (let f = counted 0 got place none in omega arith)

  access_alone : (text : List ℕ) (o : Option Meant) (place got : ℕ) → ((m : Meant) → o ≡ Some m → NamedBy p m.symbol m.number text) → is_none (symbol_if o) ≡ false → is_busy seen text ≡ false
      → 1 ≤ got → rule.access_refusals place (symbol_if o) got ≡ [] → IsTrue (is (number_if o))
  access_alone text None place got h s free some none = absurd (true≢false s)
  access_alone text (Some m) place got h s free some none = indexed_alone text m.symbol m.number place got (h m refl) free some none

  cast_alone : (o : Option PlainDigits) (ty : Ty) (e : program.PlainExpr) → Names is e → KindNames is (cast_if o ty e)
  cast_alone (Some d) ty e h = tt
  cast_alone None ty e h = h

  as_seen : (text : List ℕ) → symbol_of seen text ≡ symbol_if (meant_by here text)
  as_seen text = seen_is p scope here.names seen at text

  -- ---- expressions

  mutual
    pub expr_alone : (ask : Ask) (ty : Ty) (e : PlainExpr) → IsReadExpr e → rule.expr_refusals seen ask e ≡ [] → Names is (typed here ty e)
    expr_alone ask ty (expr place kind) read none = kind_alone ask ty place kind read (both_none _ (rule.kind_refusals seen ask place kind) none).1

    kind_alone : (ask : Ask) (ty : Ty) (place : ℕ) (kind : PlainExprKind) → IsReadKind kind → rule.kind_refusals seen ask place kind ≡ [] → KindNames is (kind_typed here ty kind)
    kind_alone ask ty place (number d) read none = tt
    kind_alone ask ty place (truth b) read none = tt
    kind_alone ask ty place (name i v) read none =
        let g = both_none _ _ (both_none (rule.name_refusals seen i) _ none).0 in
        named_alone i.text (meant_by here i.text) (at.named i.text) (not_noted _ _ g.1)
    kind_alone ask ty place (deq i) read none =
        let f = both_none (rule.name_refusals seen i) _ none in
        let g = both_none _ _ f.0 in
        deq_alone i.text (meant_by here i.text) (at.named i.text) (ap is_none (sym (as_seen i.text)) ∙ not_noted _ _ g.0) (not_noted _ _ g.1)
        (ap (rule.may_be Fifo) (sym (as_seen i.text)) ∙ or_right ask.still _ (not_noted _ _ f.1))
    kind_alone ask ty place (access i indices) read none =
        let f = three_none (rule.name_refusals seen i) (rule.access_refusals i.place (symbol_of seen i.text) (rule.index_count indices)) (rule.exprs_refusals seen (rule.at_type (Some int_type) ask.still) indices) none in
        let g = both_none _ _ f.0 in
        element_alone (is_line (symbol_at here i)) (number_of here i) _
        (access_alone i.text (meant_by here i.text) i.place (rule.index_count indices) (at.named i.text) (ap is_none (sym (as_seen i.text)) ∙ not_noted _ _ g.0) (not_noted _ _ g.1) read.0
        (ap (λ o. rule.access_refusals i.place o (rule.index_count indices)) (sym (as_seen i.text)) ∙ f.1))
        (all_alone (rule.at_type (Some int_type) ask.still) int_type indices read.1 f.2)
    kind_alone ask ty place (mux c a b) read none =
        let f = three_none (rule.expr_refusals seen (rule.at_type (Some Bit) ask.still) c) (rule.expr_refusals seen (rule.operand ask false) a) (rule.expr_refusals seen (rule.operand ask false) b) none in
        (expr_alone (rule.at_type (Some Bit) ask.still) Bit c read.0 f.0, expr_alone (rule.operand ask false) ty a read.1 f.1, expr_alone (rule.operand ask false) ty b read.2 f.2)
    kind_alone ask ty place (min a b) read none =
        let f = both_none (rule.expr_refusals seen (rule.operand ask true) a) (rule.expr_refusals seen (rule.operand ask true) b) none in
        (expr_alone (rule.operand ask true) ty a read.0 f.0, expr_alone (rule.operand ask true) ty b read.1 f.1)
    kind_alone ask ty place (max a b) read none =
        let f = both_none (rule.expr_refusals seen (rule.operand ask true) a) (rule.expr_refusals seen (rule.operand ask true) b) none in
        (expr_alone (rule.operand ask true) ty a read.0 f.0, expr_alone (rule.operand ask true) ty b read.1 f.1)
    kind_alone ask ty place (one Minus a) read none = expr_alone (rule.operand ask true) ty a read none
    kind_alone ask ty place (one Bang a) read none = expr_alone (rule.at_type (Some Bit) ask.still) Bit a read none
    kind_alone ask ty place (one Tilde a) read none = expr_alone (rule.operand ask true) ty a read none
    kind_alone ask ty place (two op a b) read none =
        let f = both_none (rule.expr_refusals seen (rule.binary_ask seen op ask a b) a) (rule.expr_refusals seen (rule.binary_ask seen op ask a b) b) none in
        (expr_alone (rule.binary_ask seen op ask a b) (operand_type here op ty a b) a read.0 f.0, expr_alone (rule.binary_ask seen op ask a b) (operand_type here op ty a b) b read.1 f.1)
    kind_alone ask ty place (shift left a by) read none = expr_alone (rule.operand ask true) ty a read.0 none
    kind_alone ask ty place (cast a target) read none =
        cast_alone (digits_of a) ty _ (expr_alone (rule.at_type (rule.cast_from seen a target) ask.still) (type_by_itself here a) a read (both_none _ (rule.type_refusals target) none).0)

    pub all_alone : (ask : Ask) (ty : Ty) (es : PlainExprs) → AreReadExprs es → rule.exprs_refusals seen ask es ≡ [] → AllName is (all_typed here ty es)
    all_alone ask ty no_expr read none = tt
    all_alone ask ty (more_expr e rest) read none =
        let f = both_none (rule.expr_refusals seen ask e) (rule.exprs_refusals seen ask rest) none in
        (expr_alone ask ty e read.0 f.0, all_alone ask ty rest read.1 f.1)

  -- ---- spans and counters

  pub spans_alone : (may : Bool) (ss : List PlainSpan) → All IsReadSpan ss → spans.spans_refusals seen may ss ≡ [] → SpansName is (spans_typed here ss)
  spans_alone may [] read none = tt
  spans_alone may (single e ∷ rest) read none =
      let f = both_none _ (spans.spans_refusals seen may rest) none in
      let g = both_none (spans.bound_refusals seen e) _ f.0 in
      (expr_alone spans.bound int_type e (All-head IsReadSpan (single e) rest read) g.0, spans_alone may rest (All-tail IsReadSpan (single e) rest read) f.1)
  spans_alone may (range a b par ∷ rest) read none =
      let f = both_none _ (spans.spans_refusals seen may rest) none in
      let g = both_none (spans.span_refusals seen (range a b par)) _ f.0 in
      let k = both_none (spans.bound_refusals seen a) (spans.bound_refusals seen b) g.0 in
      let r = All-head IsReadSpan (range a b par) rest read in
      (expr_alone spans.bound int_type a r.0 k.0, expr_alone spans.bound int_type b r.1 k.1, spans_alone may rest (All-tail IsReadSpan (range a b par) rest read) f.1)

  from_alone : (place : ℕ) (from : Option PlainExpr) → IsReadFrom from → spans.from_refusals seen from ≡ [] → Names is (from_typed here place from)
  from_alone place (Some e) read none = expr_alone spans.bound int_type e read none
  from_alone place None read none = tt

  pub counters_alone : (n : ℕ) (cs : List PlainCounter) → All IsReadCounter cs → spans.counters_refusals seen cs ≡ [] → CountersName is (counters_typed here n cs)
  counters_alone n [] read none = tt
  counters_alone n (c ∷ rest) read none =
      let f = both_none (spans.counter_refusals seen (spans.is_empty rest) c) (spans.counters_refusals seen rest) none in
      let g = three_none (spans.from_refusals seen c.from) (spans.bound_refusals seen c.until) (spans.counter_par (spans.is_empty rest) c.par) f.0 in
      let r = All-head IsReadCounter c rest read in
      (from_alone (place_of_expr c.until) c.from r.from g.0, expr_alone spans.bound int_type c.until r.until g.1, counters_alone (n + 1) rest (All-tail IsReadCounter c rest read) f.1)
