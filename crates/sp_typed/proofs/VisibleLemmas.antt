-- Own types hang on the visible names alone, and are known where there are no refusals.
use Rattle.std.proofs.Common.{◌≡◌, ℕ, Bool, true, false, cond, List, [], ◌++◌, Option, Some, None, is_none, refl, sym, ap, ◌∙◌, true≢false}
use Rattle.sp_words.specs.declared.types.Ty.{Ty}
use Rattle.sp_words.specs.declared.types.Ty.TheVariants.{Fix, Bit}
use Rattle.sp_reader.specs.declared.syntax.expression.SynUn.TheVariants.{Minus, Bang, Tilde}
use Rattle.sp_reader.specs.PlainTree.{PlainIdent, PlainDigits, PlainExpr, PlainExprKind, expr, number, truth, name, deq, access, mux, min, max, one, two, shift, cast}
use Rattle.sp_types.specs.declared.own.Ask.{Ask}
use Rattle.sp_types.specs.declared.own.Own.{Own}
use Rattle.sp_types.specs.declared.own.Own.TheVariants.{Nothing, Known, Unknown}
use Rattle.sp_types.specs.Expressions as rule
use Rattle.sp_types.specs.Literal.{literal_word}
use Rattle.sp_types.specs.Types.{own, kind_own, own_type, symbol_type, either, is_comparison, type_of, compared_at}
use Rattle.sp_types.specs.Visible.{Visible, symbol_of, lookup}
use Rattle.sp_typed.proofs.NoneLemmas.{both_none, three_none, not_noted}

-- ---- own types hang on names

mutual
  pub own_same : (s t : Visible) → s.names ≡ t.names → (e : PlainExpr) → own s e ≡ own t e
  own_same s t h (expr place kind) = kind_same s t h kind

  kind_same : (s t : Visible) → s.names ≡ t.names → (kind : PlainExprKind) → kind_own s kind ≡ kind_own t kind
  kind_same s t h (number d) = refl
  kind_same s t h (truth b) = refl
  kind_same s t h (name i v) = ap (λ ns. own_type (symbol_type (lookup ns i.text))) h
  kind_same s t h (deq i) = ap (λ ns. own_type (symbol_type (lookup ns i.text))) h
  kind_same s t h (access i indices) = ap (λ ns. own_type (symbol_type (lookup ns i.text))) h
  kind_same s t h (mux c a b) = ap (λ o. either o (own s b)) (own_same s t h a) ∙ ap (either (own t a)) (own_same s t h b)
  kind_same s t h (min a b) = ap (λ o. either o (own s b)) (own_same s t h a) ∙ ap (either (own t a)) (own_same s t h b)
  kind_same s t h (max a b) = ap (λ o. either o (own s b)) (own_same s t h a) ∙ ap (either (own t a)) (own_same s t h b)
  kind_same s t h (one Minus a) = own_same s t h a
  kind_same s t h (one Bang a) = refl
  kind_same s t h (one Tilde a) = own_same s t h a
  kind_same s t h (two op a b) =
      ap (λ o. cond (is_comparison op) (Known Bit) (either o (own s b))) (own_same s t h a)
      ∙ ap (λ o. cond (is_comparison op) (Known Bit) (either (own t a) o)) (own_same s t h b)
  kind_same s t h (shift left a by) = own_same s t h a
  kind_same s t h (cast a ty) = refl

-- ---- no type is unknown

-- what is visible has a type
abbrev pub HaveTypes : Visible → Type 0
HaveTypes seen = (name : List ℕ) → symbol_type (symbol_of seen name) ≡ None → symbol_of seen name ≡ None

unknown_type : (o : Option Ty) → own_type o ≡ Unknown → o ≡ None
unknown_type None e = refl
unknown_type (Some ty) e = absurd (cc)

none_is : {A : Type 0} (o : Option A) → o ≡ None → is_none o ≡ true
none_is o e = ap is_none e

unknown_either : (a b : Own) → (a ≡ Unknown → ⊥) → (b ≡ Unknown → ⊥) → either a b ≡ Unknown → ⊥
unknown_either Nothing b p q e = q e
unknown_either (Known ty) b p q e = p e
unknown_either Unknown b p q e = p refl

unknown_choice : (c : Bool) (a b : Own) → (a ≡ Unknown → ⊥) → (b ≡ Unknown → ⊥) → cond c (Known Bit) (either a b) ≡ Unknown → ⊥
unknown_choice true a b p q e = cc
unknown_choice false a b p q e = unknown_either a b p q e

known_bit : Known Bit ≡ Unknown → ⊥
known_bit e = cc

-- a name that has no refusal is visible
unknown_name : (seen : Visible) → HaveTypes seen → (i : PlainIdent) → rule.name_refusals seen i ≡ [] → own_type (symbol_type (symbol_of seen i.text)) ≡ Unknown → ⊥
unknown_name seen has i none e =
    let f = both_none _ _ none in
    true≢false (sym (none_is _ (has i.text (unknown_type _ e))) ∙ not_noted _ _ f.0)

mutual
  pub not_unknown : (seen : Visible) → HaveTypes seen → (ask : Ask) (e : PlainExpr) → rule.expr_refusals seen ask e ≡ [] → own seen e ≡ Unknown → ⊥
  not_unknown seen has ask (expr place kind) none e =
      not_unknown_kind seen has ask place kind (both_none (rule.other_type place ask.want (kind_own seen kind) ++ rule.no_number place ask.number (kind_own seen kind)) _ none).1 e

  not_unknown_kind : (seen : Visible) → HaveTypes seen → (ask : Ask) (place : ℕ) (kind : PlainExprKind) → rule.kind_refusals seen ask place kind ≡ [] → kind_own seen kind ≡ Unknown → ⊥
  not_unknown_kind seen has ask place (number d) none e = cc
  not_unknown_kind seen has ask place (truth b) none e = cc
  not_unknown_kind seen has ask place (name i v) none e = unknown_name seen has i (both_none (rule.name_refusals seen i) _ none).0 e
  not_unknown_kind seen has ask place (deq i) none e = unknown_name seen has i (both_none (rule.name_refusals seen i) _ none).0 e
  not_unknown_kind seen has ask place (access i indices) none e = unknown_name seen has i (three_none (rule.name_refusals seen i) _ _ none).0 e
  not_unknown_kind seen has ask place (mux c a b) none e =
      let f = three_none _ (rule.expr_refusals seen (rule.operand ask false) a) (rule.expr_refusals seen (rule.operand ask false) b) none in
      unknown_either _ _ (not_unknown seen has _ a f.1) (not_unknown seen has _ b f.2) e
  not_unknown_kind seen has ask place (min a b) none e =
      let f = both_none (rule.expr_refusals seen (rule.operand ask true) a) (rule.expr_refusals seen (rule.operand ask true) b) none in
      unknown_either _ _ (not_unknown seen has _ a f.0) (not_unknown seen has _ b f.1) e
  not_unknown_kind seen has ask place (max a b) none e =
      let f = both_none (rule.expr_refusals seen (rule.operand ask true) a) (rule.expr_refusals seen (rule.operand ask true) b) none in
      unknown_either _ _ (not_unknown seen has _ a f.0) (not_unknown seen has _ b f.1) e
  not_unknown_kind seen has ask place (one Minus a) none e = not_unknown seen has _ a none e
  not_unknown_kind seen has ask place (one Bang a) none e = known_bit e
  not_unknown_kind seen has ask place (one Tilde a) none e = not_unknown seen has _ a none e
  not_unknown_kind seen has ask place (two op a b) none e =
      let f = both_none (rule.expr_refusals seen (rule.binary_ask seen op ask a b) a) (rule.expr_refusals seen (rule.binary_ask seen op ask a b) b) none in
      unknown_choice (is_comparison op) _ _ (not_unknown seen has _ a f.0) (not_unknown seen has _ b f.1) e
  not_unknown_kind seen has ask place (shift left a by) none e = not_unknown seen has _ a none e
  not_unknown_kind seen has ask place (cast a ty) none e =
      let f = both_none (rule.expr_refusals seen (rule.at_type (rule.cast_from seen a ty) ask.still) a) (rule.type_refusals ty) none in
      true≢false (sym (none_is _ (unknown_type (type_of ty) e)) ∙ not_noted _ _ f.1)

-- ---- an expression of numbers alone isn't of type `Bit`

nothing_first : (a b : Own) → either a b ≡ Nothing → a ≡ Nothing
nothing_first Nothing b e = refl
nothing_first (Known ty) b e = absurd (cc)
nothing_first Unknown b e = absurd (cc)

nothing_choice : (c : Bool) (a b : Own) → cond c (Known Bit) (either a b) ≡ Nothing → (c ≡ false) × (a ≡ Nothing)
nothing_choice true a b e = absurd (cc)
nothing_choice false a b e = (refl, nothing_first a b e)

never_nothing : (o : Option Ty) → own_type o ≡ Nothing → ⊥
never_nothing None e = cc
never_nothing (Some ty) e = cc

no_bit_word : (place : ℕ) (want : Option Ty) (d : PlainDigits) → want ≡ Some Bit → rule.literal_refusals place want d ≡ [] → ⊥
unfolding literal_word
no_bit_word place None d w e = cc
no_bit_word place (Some Bit) d w e = cc
no_bit_word place (Some (Fix fix)) d w e = cc

mutual
  pub not_bit : (seen : Visible) (ask : Ask) (e : PlainExpr) → ask.want ≡ Some Bit → rule.expr_refusals seen ask e ≡ [] → own seen e ≡ Nothing → ⊥
  not_bit seen ask (expr place kind) want none e =
      not_bit_kind seen ask place kind want (both_none (rule.other_type place ask.want (kind_own seen kind) ++ rule.no_number place ask.number (kind_own seen kind)) _ none).1 e

  not_bit_kind : (seen : Visible) (ask : Ask) (place : ℕ) (kind : PlainExprKind) → ask.want ≡ Some Bit → rule.kind_refusals seen ask place kind ≡ [] → kind_own seen kind ≡ Nothing → ⊥
  not_bit_kind seen ask place (number d) want none e = no_bit_word place ask.want d want none
  not_bit_kind seen ask place (truth b) want none e = cc
  not_bit_kind seen ask place (name i v) want none e = never_nothing (symbol_type (symbol_of seen i.text)) e
  not_bit_kind seen ask place (deq i) want none e = never_nothing (symbol_type (symbol_of seen i.text)) e
  not_bit_kind seen ask place (access i indices) want none e = never_nothing (symbol_type (symbol_of seen i.text)) e
  not_bit_kind seen ask place (mux c a b) want none e =
      let f = three_none _ (rule.expr_refusals seen (rule.operand ask false) a) (rule.expr_refusals seen (rule.operand ask false) b) none in
      not_bit seen (rule.operand ask false) a want f.1 (nothing_first _ _ e)
  not_bit_kind seen ask place (min a b) want none e = not_bit seen (rule.operand ask true) a want (both_none _ (rule.expr_refusals seen (rule.operand ask true) b) none).0 (nothing_first _ _ e)
  not_bit_kind seen ask place (max a b) want none e = not_bit seen (rule.operand ask true) a want (both_none _ (rule.expr_refusals seen (rule.operand ask true) b) none).0 (nothing_first _ _ e)
  not_bit_kind seen ask place (one Minus a) want none e = not_bit seen (rule.operand ask true) a want none e
  not_bit_kind seen ask place (one Bang a) want none e = cc
  not_bit_kind seen ask place (one Tilde a) want none e = not_bit seen (rule.operand ask true) a want none e
  not_bit_kind seen ask place (two op a b) want none e =
      let g = nothing_choice (is_comparison op) _ _ e in
      let w : (rule.binary_ask seen op ask a b).want ≡ Some Bit = ap (λ c. cond c (compared_at seen a b) ask.want) g.0 ∙ want in
      not_bit seen (rule.binary_ask seen op ask a b) a w (both_none _ (rule.expr_refusals seen (rule.binary_ask seen op ask a b) b) none).0 g.1
  not_bit_kind seen ask place (shift left a by) want none e = not_bit seen (rule.operand ask true) a want none e
  not_bit_kind seen ask place (cast a ty) want none e = never_nothing (type_of ty) e
