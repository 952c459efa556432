-- A tree of an expression is typed to this expression, but for places.
use Rattle.std.proofs.Common.{◌≡◌, ℕ, Bool, true, false, if◌then◌else◌, [], Some, None, refl, sym, ap, ap₂, subst, ◌∙◌}
use Rattle.sp_words.specs.declared.kind.BinOp.{BinOp}
use Rattle.sp_words.specs.declared.kind.BinOp.TheVariants as op
use Rattle.sp_words.specs.declared.kind.UnOp.TheVariants.{Neg, Not}
use Rattle.sp_words.specs.declared.types.FixTy.{FixTy}
use Rattle.sp_words.specs.declared.types.Ty.{Ty}
use Rattle.sp_words.specs.declared.types.Ty.TheVariants.{Fix, Bit}
use Rattle.sp_words.specs.Types.{int_type}
use Rattle.sp_tree.specs.PlainExpression as program
use Rattle.sp_tree.specs.PlainExpression.{PlainExpr, PlainExprs, type_of}
use Rattle.sp_tree.specs.PlainProgram.{PlainProgram}
use Rattle.sp_tree.specs.Typing.{Scope, Typed, IndicesTyped}
use Rattle.sp_reader.specs.declared.syntax.expression.SynTy.{SynTy}
use Rattle.sp_reader.specs.declared.syntax.expression.SynTy.TheVariants as written
use Rattle.sp_reader.specs.PlainTree as tree
use Rattle.sp_printer.specs.Expressions.{type_before_cast}
use Rattle.sp_printer.specs.Names.{Names, names_in}
use Rattle.sp_printer.specs.Types.{is_int_fix}
use Rattle.sp_printer.specs.Words.{cast_text}
use Rattle.sp_printed.specs.Trees.{IsTree, AreTrees}
use Rattle.sp_types.specs.declared.own.Own.{Own}
use Rattle.sp_types.specs.Types.{own, own_or_int, either, is_comparison, type_of as written_type}
use Rattle.sp_types.specs.Expressions.{cast_from}
use Rattle.sp_types.specs.Visible.{PlainSymbol, Visible}
use Rattle.sp_typed.specs.Expressions.{known, type_by_itself, number_of, symbol_at, named_word, word_if, digits_of, cast_if, is_line, element, operand_type, typed, all_typed}
use Rattle.sp_typed.specs.Named.{Here, seen_at}
use Rattle.sp_retyped.specs.Bare.{bare, bare_kind, bare_all}
use Rattle.sp_retyped.specs.Shown.{Shown}
use Rattle.sp_retyped.proofs.Names.{Means, mem_means, val_means, counter_means}
use Rattle.sp_retyped.proofs.Owns.{OwnIs, either_is, by_itself, same_operands, own_is}
use Rattle.sp_retyped.proofs.Values.{int_is, literal_is, truth_is}

-- an operand of a cast that isn't an `Int` literal is no number alone
pub record NoNumber (x : tree.PlainExpr) : Type 0 where
  pub digits : digits_of x ≡ None
  pub cast_is : (seen : Visible) (target : SynTy) → cast_from seen x target ≡ own_or_int (own seen x)

no_text : (t : FixTy) → is_int_fix t ≡ true → (if is_int_fix t then cast_text (Fix t) else []) ≡ [] → ⊥
no_text t e h = let bad : cast_text (Fix t) ≡ [] = sym (rw e refl) ∙ h in absurd (cc)

pub no_number : {names : Names} {e : PlainExpr} {x : tree.PlainExpr} → IsTree names e x → type_before_cast e ≡ [] → NoNumber x
no_number (IsTree.a_number {t = t} e l) h = absurd (no_text t e h)
no_number (IsTree.a_typed_number e l ty) h = record { digits = refl; cast_is = λ seen target. refl }
no_number IsTree.a_truth h = record { digits = refl; cast_is = λ seen target. refl }
no_number (IsTree.a_counter text) h = record { digits = refl; cast_is = λ seen target. refl }
no_number (IsTree.a_value text) h = record { digits = refl; cast_is = λ seen target. refl }
no_number (IsTree.a_reg text) h = record { digits = refl; cast_is = λ seen target. refl }
no_number (IsTree.an_arg text) h = record { digits = refl; cast_is = λ seen target. refl }
no_number (IsTree.an_element text all) h = record { digits = refl; cast_is = λ seen target. refl }
no_number (IsTree.a_row_element text x y) h = record { digits = refl; cast_is = λ seen target. refl }
no_number (IsTree.a_deq text) h = record { digits = refl; cast_is = λ seen target. refl }
no_number (IsTree.negated x) h = record { digits = refl; cast_is = λ seen target. refl }
no_number (IsTree.turned x) h = record { digits = refl; cast_is = λ seen target. refl }
no_number (IsTree.denied x) h = record { digits = refl; cast_is = λ seen target. refl }
no_number (IsTree.operation call x y) h = record { digits = refl; cast_is = λ seen target. refl }
no_number (IsTree.least x y) h = record { digits = refl; cast_is = λ seen target. refl }
no_number (IsTree.greatest x y) h = record { digits = refl; cast_is = λ seen target. refl }
no_number (IsTree.shifted x) h = record { digits = refl; cast_is = λ seen target. refl }
no_number (IsTree.a_choice z x y) h = record { digits = refl; cast_is = λ seen target. refl }
no_number (IsTree.a_cast kept x ty) h = record { digits = refl; cast_is = λ seen target. refl }
no_number (IsTree.a_cast_number e l ty) h = record { digits = refl; cast_is = λ seen target. refl }

-- the operands of an operator are typed at their own type
pub operands_at : {a b : Own} (o : BinOp) (from to : Ty) → OwnIs a from → OwnIs b from → (is_comparison o ≡ false → from ≡ to) → (if is_comparison o then known (own_or_int (either a b)) else to) ≡ from
operands_at {a} {b} o from to f g same = go (is_comparison o) refl
  where
    go : (c : Bool) → is_comparison o ≡ c → (if c then known (own_or_int (either a b)) else to) ≡ from
    go true is = ap known (by_itself (either_is f g))
    go false is = sym (same is)

module _ (p : PlainProgram) (scope : Scope) (here : Here) (shown : Shown p scope here.names) where
  abbrev IsBack : PlainExpr → tree.PlainExpr → Type 0
  IsBack e x = bare (typed here (type_of e) x) ≡ bare e

  at : (e : PlainExpr) (x : tree.PlainExpr) (ty : Ty) → ty ≡ type_of e → IsBack e x → bare (typed here ty x) ≡ bare e
  at e x ty same h = ap (λ t. bare (typed here t x)) same ∙ h

  word_back : (ty : Ty) (i : tree.PlainIdent) (s : PlainSymbol) (n : ℕ) (k : program.PlainExprKind) → Means here i s n → named_word n (Some s) ≡ k → program.expr 0 ty (bare_kind (named_word (number_of here i) (symbol_at here i))) ≡ program.expr 0 ty (bare_kind k)
  word_back ty i s n k m e = ap (λ k. program.expr 0 ty (bare_kind k)) (ap₂ named_word m.number_is m.symbol_is ∙ e)

  int_itself : (at2 at3 at4 : ℕ) (d : tree.PlainDigits) → type_by_itself here (tree.expr at2 (tree.cast (tree.expr at3 (tree.number d)) (written.Int at4))) ≡ int_type
  unfolding written_type
  int_itself at2 at3 at4 d = refl

  mutual
    pub back : {e : PlainExpr} {x : tree.PlainExpr} → IsTree (names_in p) e x → Typed p scope e → bare (typed here (type_of e) x) ≡ bare e
    back (IsTree.a_number {w = w} {t = t} {d = d} e l) h = ap (λ o. program.expr 0 (Fix t) (program.literal (word_if o))) (literal_is t w d h l)
    back (IsTree.a_typed_number {w = w} {t = t} {d = d} e l ty) h = ap (λ o. program.expr 0 (Fix t) (program.literal (word_if o))) (literal_is t w d h l)
    back (IsTree.a_truth {w = w}) h = ap (λ n. program.expr 0 Bit (program.literal n)) (truth_is w h)
    back (IsTree.a_counter {c = c} {ty = ty} {i = i} text) h = word_back ty i _ c (program.counter c) (counter_means p scope here shown i c text h.0) refl
    back (IsTree.a_value {v = v} {ty = ty} {i = i} text) h = word_back ty i _ v (program.value v) (val_means p scope here shown i v ty text h) refl
    back (IsTree.a_reg {m = m} {ty = ty} {i = i} text) h = word_back ty i _ m (program.get_reg m) (mem_means p scope here shown i m _ ty text h) refl
    back (IsTree.an_arg {m = m} {ty = ty} {i = i} text) h = word_back ty i _ m (program.get_arg m) (mem_means p scope here shown i m _ ty text h) refl
    back (IsTree.an_element {m = m} {ty = ty} {i = i} {indices = indices} {all = all} text trees) h =
        let means = mem_means p scope here shown i m _ ty text h.0 in
        ap (λ k. program.expr 0 ty (bare_kind k)) (ap₂ (λ s n. element (is_line s) n (all_typed here int_type all)) means.symbol_is means.number_is)
        ∙ ap (λ k. program.expr 0 ty (program.get_sram m k)) (all_back trees h.2)
    back (IsTree.a_row_element {m = m} {ty = ty} {i = i} {x = a} {y = b} text x y) h =
        let means = mem_means p scope here shown i m _ ty text h.0 in
        ap (λ k. program.expr 0 ty (bare_kind k)) (ap₂ (λ s n. element (is_line s) n (all_typed here int_type (tree.more_expr a (tree.more_expr b tree.no_expr)))) means.symbol_is means.number_is)
        ∙ ap₂ (λ u v. program.expr 0 ty (program.get_line m u v)) (at _ _ int_type (sym h.2) (back x h.1)) (at _ _ int_type (sym h.4) (back y h.3))
    back (IsTree.a_deq {m = m} {ty = ty} {i = i} text) h = ap (λ n. program.expr 0 ty (program.deq n)) (mem_means p scope here shown i m _ ty text h).number_is
    back (IsTree.negated {ty = ty} x) h = ap (λ u. program.expr 0 ty (program.one Neg u)) (at _ _ ty (sym h.1.0) (back x h.0))
    back (IsTree.turned {t = t} x) h = ap (λ u. program.expr 0 (Fix t) (program.one Not u)) (at _ _ (Fix t) (sym h.1) (back x h.0))
    back (IsTree.denied x) h = ap (λ u. program.expr 0 Bit (program.one Not u)) (at _ _ Bit (sym h.1) (back x h.0))
    back (IsTree.operation {ty = ty} {op = o} {a = a} {b = b} {x = u} {y = v} call x y) h =
        let f = own_is p scope here shown (seen_at here) refl x h.0 in
        let g = subst (OwnIs _) (sym h.2) (own_is p scope here shown (seen_at here) refl y h.1) in
        let from = operands_at o (type_of a) ty f g (λ e. same_operands o (type_of a) ty e h.3) in
        ap₂ (λ u v. program.expr 0 ty (program.two o u v)) (at _ _ (operand_type here o ty u v) from (back x h.0)) (at _ _ (operand_type here o ty u v) (from ∙ h.2) (back y h.1))
    back (IsTree.least {ty = ty} x y) h = ap₂ (λ u v. program.expr 0 ty (program.two op.Min u v)) (at _ _ ty (sym h.3.0) (back x h.0)) (at _ _ ty (sym h.3.0 ∙ h.2) (back y h.1))
    back (IsTree.greatest {ty = ty} x y) h = ap₂ (λ u v. program.expr 0 ty (program.two op.Max u v)) (at _ _ ty (sym h.3.0) (back x h.0)) (at _ _ ty (sym h.3.0 ∙ h.2) (back y h.1))
    back (IsTree.shifted {by = by} {ty = ty} {left = left} x) h = ap (λ u. program.expr 0 ty (program.shift left u by)) (at _ _ ty (sym h.1) (back x h.0))
    back (IsTree.a_choice {ty = ty} z x y) h =
        let first = at _ _ Bit (sym h.1) (back z h.0) in
        let second = at _ _ ty (sym h.3) (back x h.2) in
        let third = at _ _ ty (sym h.5) (back y h.4) in
        λ i. program.expr 0 ty (program.mux (first i) (second i) (third i))
    back (IsTree.a_cast {ty = ty} {a = a} {x = u} kept x target) h =
        let by = ap known (by_itself (own_is p scope here shown (seen_at here) refl x h)) in
        ap (λ d. program.expr 0 ty (bare_kind (cast_if d ty (typed here (type_by_itself here u) u)))) (no_number x kept).digits
        ∙ ap (λ v. program.expr 0 ty (program.cast v)) (at _ _ (type_by_itself here u) by (back x h))
    back (IsTree.a_cast_number {at2 = at2} {at3 = at3} {at4 = at4} {w = w} {ty = ty} {t = t} {d = d} e l target) h =
        let inner = tree.expr at2 (tree.cast (tree.expr at3 (tree.number d)) (written.Int at4)) in
        ap (λ u. program.expr 0 ty (program.cast (bare (typed here u inner)))) (int_itself at2 at3 at4 d ∙ sym (int_is t e))
        ∙ ap (λ o. program.expr 0 ty (program.cast (program.expr 0 (Fix t) (program.literal (word_if o))))) (literal_is t w d h l)

    pub all_back : {indices : PlainExprs} {all : tree.PlainExprs} → AreTrees (names_in p) indices all → IndicesTyped p scope indices → bare_all (all_typed here int_type all) ≡ bare_all indices
    all_back AreTrees.no_trees h = refl
    all_back (AreTrees.more_trees x rest) h = ap₂ (λ u v. program.more_expr u v) (at _ _ int_type (sym h.1) (back x h.0)) (all_back rest h.2)
