-- An expression that keeps the rules has no refusals.
use Rattle.std.proofs.Common.{◌≡◌, ℕ, Bool, true, false, cond, not, ◌||◌, [], length, Option, Some, None, is_none, refl, sym, ap, ◌∙◌, true≢false}
use Rattle.sp_words.specs.declared.kind.Kind.TheVariants.{Reg, Sram, Fifo, LineBuf, Dram, ArgIn, ArgOut}
use Rattle.sp_words.specs.declared.types.Ty.{Ty}
use Rattle.sp_words.specs.declared.types.Ty.TheVariants.{Fix, Bit}
use Rattle.sp_words.specs.Types.{int_type}
use Rattle.sp_reader.specs.declared.syntax.expression.SynUn.TheVariants.{Minus, Bang, Tilde}
use Rattle.sp_reader.specs.PlainTree.{PlainIdent, PlainExpr, PlainExprKind, PlainExprs, expr, number, truth, name, deq, access, mux, min, max, one, two, shift, cast, no_expr, more_expr}
use Rattle.sp_tree.specs.Typing.{IsNumber}
use Rattle.sp_types.specs.declared.own.Ask.{Ask}
use Rattle.sp_types.specs.declared.own.Own.{Own}
use Rattle.sp_types.specs.declared.own.Own.TheVariants.{Nothing, Known, Unknown}
use Rattle.sp_types.specs.Expressions as rule
use Rattle.sp_types.specs.Types.{own, kind_own, own_type, symbol_type, either, is_comparison, is_type, type_of, compared_at}
use Rattle.sp_types.specs.Visible.{PlainSymbol, memory, value, counter, Visible, symbol_of}
use Rattle.sp_rules.specs.ExpressionRules.{Names, IsValue, IsElement, IsFifo, HasOperands, IsRight, IsRightKind, AreRight}
use Rattle.sp_rules.proofs.BasicLemmas as none
use Rattle.sp_rules.proofs.BasicLemmas.{no_if, not_true, some_same, type_same, count_none, name_none}

-- ---- own types

-- a type that an expression has by itself, if it has one, is the one at which it is right
abbrev pub Fits : Own → Ty → Type 0
Fits Nothing ty = Unit {0}
Fits (Known t) ty = t ≡ ty
Fits Unknown ty = ⊥

fits_either : (a b : Own) (ty : Ty) → Fits a ty → Fits b ty → Fits (either a b) ty
fits_either Nothing b ty f g = g
fits_either (Known t) b ty f g = f
fits_either Unknown b ty f g = f

pub fits_type : (o : Option Ty) (ty : Ty) → o ≡ Some ty → Fits (own_type o) ty
fits_type None ty e = absurd (cc)
fits_type (Some t) ty e = some_same t ty e

fits_operation : (c : Bool) (compared : Option Ty) (a b : Own) (from ty : Ty) → HasOperands c compared from ty → Fits a from → Fits b from → Fits (cond c (Known Bit) (either a b)) ty
fits_operation true compared a b from ty h f g = sym h.1
fits_operation false compared a b from ty h f g = fits_to (either a b) (fits_either a b from f g)
  where
    fits_to : (o : Own) → Fits o from → Fits o ty
    fits_to Nothing f = tt
    fits_to (Known t) f = f ∙ h
    fits_to Unknown f = f

value_type : (dotted : Bool) (s : PlainSymbol) (ty : Ty) → IsValue dotted s ty → symbol_type (Some s) ≡ Some ty
value_type dotted (memory Reg t dims) ty h = h
value_type dotted (memory ArgIn t dims) ty h = h
value_type dotted (memory _ t dims) ty h = absurd h
value_type dotted (value t) ty h = h.1
value_type dotted counter ty h = ap Some h.1

element_type : (s : PlainSymbol) (n : ℕ) (ty : Ty) → IsElement s n ty → symbol_type (Some s) ≡ Some ty
element_type (memory Sram t dims) n ty h = h.0
element_type (memory LineBuf t dims) n ty h = h.0
element_type (memory _ t dims) n ty h = absurd h
element_type (value t) n ty h = absurd h
element_type counter n ty h = absurd h

fifo_type : (s : PlainSymbol) (ty : Ty) → IsFifo s ty → symbol_type (Some s) ≡ Some ty
fifo_type (memory Fifo t dims) ty h = h
fifo_type (memory _ t dims) ty h = absurd h
fifo_type (value t) ty h = absurd h
fifo_type counter ty h = absurd h

fits_name : (seen : Visible) (i : PlainIdent) (s : PlainSymbol) (ty : Ty) → Names seen i s → symbol_type (Some s) ≡ Some ty → Fits (own_type (symbol_type (symbol_of seen i.text))) ty
fits_name seen i s ty n e = fits_type (symbol_type (symbol_of seen i.text)) ty (ap symbol_type n.is ∙ e)

mutual
  pub own_fits : (seen : Visible) (still : Bool) (ty : Ty) (e : PlainExpr) → IsRight seen still ty e → Fits (own seen e) ty
  own_fits seen still ty (expr place kind) h = kind_fits seen still ty kind h

  kind_fits : (seen : Visible) (still : Bool) (ty : Ty) (kind : PlainExprKind) → IsRightKind seen still ty kind → Fits (kind_own seen kind) ty
  kind_fits seen still ty (number d) h = tt
  kind_fits seen still ty (truth b) h = sym h
  kind_fits seen still ty (name i v) h = fits_name seen i h.0 ty h.1 (value_type v h.0 ty h.2)
  kind_fits seen still ty (deq i) h = fits_name seen i h.0 ty h.1 (fifo_type h.0 ty h.2)
  kind_fits seen still ty (access i indices) h = fits_name seen i h.0 ty h.1 (element_type h.0 (rule.index_count indices) ty h.2)
  kind_fits seen still ty (mux c a b) h = fits_either (own seen a) (own seen b) ty (own_fits seen still ty a h.1) (own_fits seen still ty b h.2)
  kind_fits seen still ty (min a b) h = fits_either (own seen a) (own seen b) ty (own_fits seen still ty a h.1) (own_fits seen still ty b h.2)
  kind_fits seen still ty (max a b) h = fits_either (own seen a) (own seen b) ty (own_fits seen still ty a h.1) (own_fits seen still ty b h.2)
  kind_fits seen still ty (one Minus a) h = own_fits seen still ty a h.1
  kind_fits seen still ty (one Bang a) h = sym h.0
  kind_fits seen still ty (one Tilde a) h = own_fits seen still ty a h.1
  kind_fits seen still ty (two op a b) h =
      fits_operation (is_comparison op) (compared_at seen a b) (own seen a) (own seen b) h.0 ty h.1 (own_fits seen still h.0 a h.3) (own_fits seen still h.0 b h.4)
  kind_fits seen still ty (shift left a by) h = own_fits seen still ty a h.1
  kind_fits seen still ty (cast a target) h = fits_type (type_of target) ty h.1

-- ---- no clash, and no `Bit` where a number is wanted

pub other_none : (place : ℕ) (ty : Ty) (o : Own) → Fits o ty → rule.other_type place (Some ty) o ≡ []
other_none place ty Nothing h = refl
other_none place ty (Known t) h = no_if _ _ (not_true _ (ap (is_type ty) h ∙ type_same ty))
other_none place ty Unknown h = absurd h

number_none : (place : ℕ) (must : Bool) (ty : Ty) (o : Own) → (must ≡ true → IsNumber ty) → Fits o ty → rule.no_number place must o ≡ []
number_none place false ty o n h = refl
number_none place true ty Nothing n h = refl
number_none place true ty (Known Bit) n h = absurd (n refl (sym h))
number_none place true ty (Known (Fix fix)) n h = refl
number_none place true ty Unknown n h = absurd h

-- ---- names

value_there : (dotted : Bool) (s : PlainSymbol) (ty : Ty) → IsValue dotted s ty → rule.is_value dotted (Some s) ≡ true
value_there dotted (memory Reg t dims) ty h = refl
value_there dotted (memory ArgIn t dims) ty h = refl
value_there dotted (memory _ t dims) ty h = absurd h
value_there dotted (value t) ty h = ap not h.0
value_there dotted counter ty h = ap not h.0

fifo_there : (s : PlainSymbol) (ty : Ty) → IsFifo s ty → rule.may_be Fifo (Some s) ≡ true
fifo_there (memory Fifo t dims) ty h = refl
fifo_there (memory _ t dims) ty h = absurd h
fifo_there (value t) ty h = absurd h
fifo_there counter ty h = absurd h

element_none : (place got : ℕ) (s : PlainSymbol) (ty : Ty) → IsElement s got ty → rule.access_refusals place (Some s) got ≡ []
element_none place got (memory Sram t dims) ty h = count_none place (length dims) got h.1
element_none place got (memory LineBuf t dims) ty h = count_none place 2 got h.1
element_none place got (memory Reg t dims) ty h = absurd h
element_none place got (memory Fifo t dims) ty h = absurd h
element_none place got (memory Dram t dims) ty h = absurd h
element_none place got (memory ArgIn t dims) ty h = absurd h
element_none place got (memory ArgOut t dims) ty h = absurd h
element_none place got (value t) ty h = absurd h
element_none place got counter ty h = absurd h

wants : (c : Bool) (compared want : Option Ty) (from ty : Ty) → HasOperands c compared from ty → want ≡ Some ty → cond c compared want ≡ Some from
wants true compared want from ty h e = h.0
wants false compared want from ty h e = e ∙ ap Some (sym h)

neither : (a b : Bool) → a ≡ false → b ≡ true → (a || not b) ≡ false
neither a b e f = ap (λ x. x || not b) e ∙ ap not f

pub no_must : {A : Type 0} → false ≡ true → A
no_must e = absurd (true≢false (sym e))

-- ---- expressions

mutual
  pub expr_none : (seen : Visible) (ask : Ask) (ty : Ty) (e : PlainExpr) → ask.want ≡ Some ty → (ask.number ≡ true → IsNumber ty) → IsRight seen ask.still ty e → rule.expr_refusals seen ask e ≡ []
  expr_none seen ask ty (expr place kind) want must h =
      let fits = kind_fits seen ask.still ty kind h in
      none.three (rule.other_type place ask.want (kind_own seen kind)) (rule.no_number place ask.number (kind_own seen kind)) (rule.kind_refusals seen ask place kind)
      (ap (λ o. rule.other_type place o (kind_own seen kind)) want ∙ other_none place ty (kind_own seen kind) fits)
      (number_none place ask.number ty (kind_own seen kind) must fits)
      (kind_none seen ask ty place kind want h)

  kind_none : (seen : Visible) (ask : Ask) (ty : Ty) (place : ℕ) (kind : PlainExprKind) → ask.want ≡ Some ty → IsRightKind seen ask.still ty kind → rule.kind_refusals seen ask place kind ≡ []
  kind_none seen ask ty place (number d) want h = ap (λ o. rule.literal_refusals place o d) want ∙ no_if _ _ (ap is_none h.1)
  kind_none seen ask ty place (truth b) want h = refl
  kind_none seen ask ty place (name i v) want h =
      none.two _ _ (name_none seen i h.0 h.1) (no_if _ _ (not_true _ (ap (rule.is_value v) h.1.is ∙ value_there v h.0 ty h.2)))
  kind_none seen ask ty place (deq i) want h =
      none.two _ _ (name_none seen i h.0 h.1) (no_if _ _ (neither ask.still (rule.may_be Fifo (symbol_of seen i.text)) h.3 (ap (rule.may_be Fifo) h.1.is ∙ fifo_there h.0 ty h.2)))
  kind_none seen ask ty place (access i indices) want h =
      none.three (rule.name_refusals seen i) (rule.access_refusals i.place (symbol_of seen i.text) (rule.index_count indices)) (rule.exprs_refusals seen (rule.at_type (Some int_type) ask.still) indices)
      (name_none seen i h.0 h.1)
      (ap (λ o. rule.access_refusals i.place o (rule.index_count indices)) h.1.is ∙ element_none i.place (rule.index_count indices) h.0 ty h.2)
      (exprs_none seen (rule.at_type (Some int_type) ask.still) int_type indices refl (λ e. no_must e) h.3)
  kind_none seen ask ty place (mux c a b) want h =
      none.three (rule.expr_refusals seen (rule.at_type (Some Bit) ask.still) c) (rule.expr_refusals seen (rule.operand ask false) a) (rule.expr_refusals seen (rule.operand ask false) b)
      (expr_none seen (rule.at_type (Some Bit) ask.still) Bit c refl (λ e. no_must e) h.0)
      (expr_none seen (rule.operand ask false) ty a want (λ e. no_must e) h.1) (expr_none seen (rule.operand ask false) ty b want (λ e. no_must e) h.2)
  kind_none seen ask ty place (min a b) want h =
      none.two (rule.expr_refusals seen (rule.operand ask true) a) (rule.expr_refusals seen (rule.operand ask true) b)
      (expr_none seen (rule.operand ask true) ty a want (λ e. h.0) h.1) (expr_none seen (rule.operand ask true) ty b want (λ e. h.0) h.2)
  kind_none seen ask ty place (max a b) want h =
      none.two (rule.expr_refusals seen (rule.operand ask true) a) (rule.expr_refusals seen (rule.operand ask true) b)
      (expr_none seen (rule.operand ask true) ty a want (λ e. h.0) h.1) (expr_none seen (rule.operand ask true) ty b want (λ e. h.0) h.2)
  kind_none seen ask ty place (one Minus a) want h = expr_none seen (rule.operand ask true) ty a want (λ e. h.0) h.1
  kind_none seen ask ty place (one Bang a) want h = expr_none seen (rule.at_type (Some Bit) ask.still) Bit a refl (λ e. no_must e) h.1
  kind_none seen ask ty place (one Tilde a) want h = expr_none seen (rule.operand ask true) ty a want (λ e. h.0) h.1
  kind_none seen ask ty place (two op a b) want h =
      let w = wants (is_comparison op) (compared_at seen a b) ask.want h.0 ty h.1 want in
      none.two (rule.expr_refusals seen (rule.binary_ask seen op ask a b) a) (rule.expr_refusals seen (rule.binary_ask seen op ask a b) b)
      (expr_none seen (rule.binary_ask seen op ask a b) h.0 a w h.2 h.3) (expr_none seen (rule.binary_ask seen op ask a b) h.0 b w h.2 h.4)
  kind_none seen ask ty place (shift left a by) want h = expr_none seen (rule.operand ask true) ty a want (λ e. h.0) h.1
  kind_none seen ask ty place (cast a target) want h =
      none.two (rule.expr_refusals seen (rule.at_type (rule.cast_from seen a target) ask.still) a) (rule.type_refusals target)
      (expr_none seen (rule.at_type (rule.cast_from seen a target) ask.still) h.0 a h.2 (λ e. no_must e) h.3) (no_if _ _ (ap is_none h.1))

  pub exprs_none : (seen : Visible) (ask : Ask) (ty : Ty) (es : PlainExprs) → ask.want ≡ Some ty → (ask.number ≡ true → IsNumber ty) → AreRight seen ask.still ty es → rule.exprs_refusals seen ask es ≡ []
  exprs_none seen ask ty no_expr want must h = refl
  exprs_none seen ask ty (more_expr e rest) want must h =
      none.two (rule.expr_refusals seen ask e) (rule.exprs_refusals seen ask rest) (expr_none seen ask ty e want must h.0) (exprs_none seen ask ty rest want must h.1)
