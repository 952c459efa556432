-- Slices, counters and combiners of a program's tree are typed to these again.
use Rattle.std.proofs.Common.{◌≡◌, ℕ, suc, ◌+◌, eqb-true, true, List, [], ◌∷◌, map, length, slice_index_or, Option, refl, sym, ap, ap₂, subst, ◌∙◌, arith}
use Rattle.sp_words.specs.declared.kind.Style.{Style}
use Rattle.sp_words.specs.declared.types.Ty.{Ty}
use Rattle.sp_words.specs.declared.types.Ty.TheVariants.{Fix, Bit}
use Rattle.sp_words.specs.Types.{int_type}
use Rattle.sp_reader.specs.declared.syntax.statement.SynPar.{SynPar}
use Rattle.sp_reader.specs.PlainTree as tree
use Rattle.sp_reader.specs.PlainStatement as tree_of
use Rattle.sp_tree.specs.declared.statement.Comb.{Comb}
use Rattle.sp_tree.specs.PlainExpression as expression
use Rattle.sp_tree.specs.PlainExpression.{PlainExpr, type_of}
use Rattle.sp_tree.specs.PlainProgram.{PlainProgram}
use Rattle.sp_tree.specs.PlainStatement as program
use Rattle.sp_tree.specs.Structure.{counter_numbers}
use Rattle.sp_tree.specs.Typing.{Scope, Typed, SpansTyped, BoundsTyped, BindersFresh, with_counter, with_counters}
use Rattle.sp_printer.specs.Names.{names_in}
use Rattle.sp_printer.specs.Pieces.{is_zero}
use Rattle.sp_printed.specs.Trees.{IsTree}
use Rattle.sp_printed.specs.LoopTrees.{IsParTree, IsStyleTree, IsCombOperator, IsCombTree, IsSpanTree, AreSpanTrees, IsFromTree, AreCounterTrees, AreBindTrees}
use Rattle.sp_types.specs.Visible.{counter}
use Rattle.sp_typed.specs.Declarations as declared
use Rattle.sp_typed.specs.Expressions.{typed}
use Rattle.sp_typed.specs.Named.{Meant, Here, given}
use Rattle.sp_typed.specs.Statements.{lanes, spans_typed, span_typed, from_typed, counters_typed, loop_style, comb_typed}
use Rattle.sp_retyped.specs.Bare.{bare}
use Rattle.sp_retyped.specs.BareBody.{bare_span, bare_counter}
use Rattle.sp_retyped.specs.Shown.{Shown}
use Rattle.sp_retyped.proofs.Back.{back}
use Rattle.sp_retyped.proofs.Numbered.{IsRun}
use Rattle.sp_retyped.proofs.Scopes.{shown_counter}
use Rattle.sp_retyped.proofs.Values.{word_is}

pub lanes_back : {n : ℕ} {q : Option SynPar} → IsParTree n q → lanes q ≡ n
lanes_back (IsParTree.one_lane {n = n} e) = sym (eqb-true n 1 e)
lanes_back (IsParTree.lanes e) = refl

pub style_back : {s : Style} {q : Option Style} → IsStyleTree s q → loop_style q ≡ s
style_back IsStyleTree.pipe = refl
style_back IsStyleTree.sequential = refl

operator_back : {c : Comb} {o : _} → IsCombOperator c o → comb_typed o ≡ c
operator_back IsCombOperator.add = refl
operator_back IsCombOperator.mul = refl
operator_back IsCombOperator.both = refl
operator_back IsCombOperator.either = refl
operator_back IsCombOperator.unlike = refl
operator_back IsCombOperator.least = refl
operator_back IsCombOperator.greatest = refl

pub comb_back : {c : Comb} {y : tree_of.PlainComb} → IsCombTree c y → comb_typed y.operator ≡ c
comb_back (IsCombTree.unnamed o) = operator_back o
comb_back (IsCombTree.named o a b) = operator_back o

module _ (p : PlainProgram) where
  module _ (scope : Scope) (here : Here) (shown : Shown p scope here.names) where
    -- an expression at a type that is its own
    pub back_at : {e : PlainExpr} {x : tree.PlainExpr} (ty : Ty) → ty ≡ type_of e → IsTree (names_in p) e x → Typed p scope e → bare (typed here ty x) ≡ bare e
    back_at {e} {x} ty same t h = ap (λ t. bare (typed here t x)) same ∙ back p scope here shown t h

    span_back : {s : program.PlainSpan} {x : tree_of.PlainSpan} (rest : List program.PlainSpan) → IsSpanTree (names_in p) s x → SpansTyped p scope (s ∷ rest) → bare_span (span_typed here x) ≡ bare_span s
    span_back rest (IsSpanTree.an_index t) h = ap program.single (back_at int_type (sym h.0.0.1) t h.0.0.0)
    span_back rest (IsSpanTree.a_range t u par) h =
        let first = back_at int_type (sym h.0.0.1) t h.0.0.0 in
        let second = back_at int_type (sym h.1.0.1) u h.1.0.0 in
        let third = lanes_back par in
        λ i. program.range (first i) (second i) (third i)

    rest_typed : (s : program.PlainSpan) (rest : List program.PlainSpan) → SpansTyped p scope (s ∷ rest) → SpansTyped p scope rest
    rest_typed (program.single e) rest h = h.1
    rest_typed (program.range a b par) rest h = h.3

    pub spans_back : {spans : List program.PlainSpan} {xs : List tree_of.PlainSpan} → AreSpanTrees (names_in p) spans xs → SpansTyped p scope spans → map bare_span (spans_typed here xs) ≡ map bare_span spans
    spans_back AreSpanTrees.no_spans h = refl
    spans_back (AreSpanTrees.more_spans {s = s} {rest = rest} t ts) h = ap₂ (λ x l. x ∷ l) (span_back rest t h) (spans_back ts (rest_typed s rest h))

    zero_back : (e : PlainExpr) → is_zero e ≡ true → Typed p scope e → type_of e ≡ int_type → expression.expr 0 int_type (expression.literal 0) ≡ bare e
    zero_back (expression.expr place (Fix t) (expression.literal w)) z h same =
        let none : w ≡ 0 = sym (word_is (Fix t) w h) ∙ eqb-true _ 0 z in
        ap₂ (λ ty n. expression.expr 0 ty (expression.literal n)) (sym same) (sym none)
    zero_back (expression.expr place Bit (expression.literal w)) z h same = absurd (cc)
    zero_back (expression.expr place ty (expression.counter c)) z h same = absurd (cc)
    zero_back (expression.expr place ty (expression.value v)) z h same = absurd (cc)
    zero_back (expression.expr place ty (expression.get_reg m)) z h same = absurd (cc)
    zero_back (expression.expr place ty (expression.get_arg m)) z h same = absurd (cc)
    zero_back (expression.expr place ty (expression.get_sram m indices)) z h same = absurd (cc)
    zero_back (expression.expr place ty (expression.get_line m row column)) z h same = absurd (cc)
    zero_back (expression.expr place ty (expression.deq m)) z h same = absurd (cc)
    zero_back (expression.expr place ty (expression.one o a)) z h same = absurd (cc)
    zero_back (expression.expr place ty (expression.two o a b)) z h same = absurd (cc)
    zero_back (expression.expr place ty (expression.shift left a by)) z h same = absurd (cc)
    zero_back (expression.expr place ty (expression.mux c a b)) z h same = absurd (cc)
    zero_back (expression.expr place ty (expression.cast a)) z h same = absurd (cc)

    from_back : {e : PlainExpr} {x : Option tree.PlainExpr} (place : ℕ) → IsFromTree (names_in p) e x → Typed p scope e → type_of e ≡ int_type → bare (from_typed here place x) ≡ bare e
    from_back {e} place (IsFromTree.from_zero z) h same = zero_back e z h same
    from_back place (IsFromTree.from z t) h same = back_at int_type (sym same) t h

    pub counters_back : {counters : List program.PlainCounter} {xs : List tree_of.PlainCounter} (n : ℕ) → AreCounterTrees (names_in p) counters xs → BoundsTyped p scope counters → IsRun n (counter_numbers counters)
        → map bare_counter (counters_typed here n xs) ≡ map bare_counter counters
    counters_back n AreCounterTrees.no_counters h r = refl
    counters_back n (AreCounterTrees.more_counters {c = c} {x = x} {rest = rest} {all = all} t ts) h r =
        let number = sym r.0 in
        let first = from_back (tree.place_of_expr x.until) t.from h.0.0.0 h.0.0.1 in
        let second = back_at int_type (sym h.1.0.1) t.until h.1.0.0 in
        let third = lanes_back t.par in
        let next : n + 1 ≡ suc n = omega arith in
        let more = counters_back (n + 1) ts h.4 (subst (λ k. IsRun k (counter_numbers rest)) (sym next) r.1) in
        λ i. record { number = number i; from = first i; until = second i; step = t.step i; par = third i } ∷ more i

  -- the names of binders
  pub binders_shown : {counters : List program.PlainCounter} {binds : List tree.PlainIdent} (scope : Scope) (names : List (List ℕ × Meant)) (n : ℕ) → AreBindTrees (names_in p) counters binds → BindersFresh p scope counters → IsRun n (counter_numbers counters)
      → Shown p scope names → Shown p (with_counters scope counters) (declared.with_counters names n binds)
  binders_shown scope names n AreBindTrees.no_binds fresh r h = h
  binders_shown scope names n (AreBindTrees.more_binds {c = c} {i = i} {rest = rest} {all = all} text ts) fresh r h =
      let next : n + 1 ≡ suc n = omega arith in
      let here = shown_counter p scope names c.number h fresh.0 in
      let moved = subst (λ k. Shown p (with_counter scope c.number) (given names (slice_index_or p.counters c.number []) counter k)) r.0 here in
      let named = subst (λ w. Shown p (with_counter scope c.number) (given names w counter n)) (sym text) moved in
      binders_shown _ _ (n + 1) ts fresh.1 (subst (λ k. IsRun k (counter_numbers rest)) (sym next) r.1) named

  pub binds_count : {counters : List program.PlainCounter} {binds : List tree.PlainIdent} → AreBindTrees (names_in p) counters binds → length binds ≡ length (counter_numbers counters)
  binds_count AreBindTrees.no_binds = refl
  binds_count (AreBindTrees.more_binds text ts) = ap (λ n. suc n) (binds_count ts)
