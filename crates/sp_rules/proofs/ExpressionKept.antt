-- An expression without refusals keeps the rules.
use Rattle.std.proofs.Common.{◌≡◌, ◌≢◌, ℕ, ◌≤◌, Bool, true, false, cond, not, ◌&&◌, ◌||◌, [], length, Option, Some, None, is_none, refl, sym, ap, ◌∙◌, true≢false, arith}
use Rattle.sp_words.specs.declared.kind.Kind.TheVariants.{Reg, Sram, Fifo, LineBuf, Dram, ArgIn, ArgOut}
use Rattle.sp_words.specs.declared.types.Ty.{Ty}
use Rattle.sp_words.specs.declared.types.Ty.TheVariants.{Fix, Bit}
use Rattle.sp_words.specs.Types.{int_type}
use Rattle.sp_reader.specs.declared.syntax.expression.SynTy.{SynTy}
use Rattle.sp_reader.specs.declared.syntax.expression.SynUn.TheVariants.{Minus, Bang, Tilde}
use Rattle.sp_reader.specs.PlainTree.{PlainIdent, PlainExpr, PlainExprKind, PlainExprs, expr, number, truth, name, deq, access, mux, min, max, one, two, shift, cast, no_expr, more_expr}
use Rattle.sp_tree.specs.Typing.{IsNumber}
use Rattle.sp_types.specs.declared.own.Ask.{Ask}
use Rattle.sp_types.specs.declared.own.Own.{Own}
use Rattle.sp_types.specs.declared.own.Own.TheVariants.{Nothing, Known, Unknown}
use Rattle.sp_types.specs.Expressions as rule
use Rattle.sp_types.specs.Types.{own, kind_own, own_type, symbol_type, either, own_or_int, is_comparison, type_of, compared_at}
use Rattle.sp_types.specs.Visible.{PlainSymbol, memory, value, counter, Visible, symbol_of}
use Rattle.sp_typed.proofs.ExpressionLemmas.{own_is}
use Rattle.sp_typed.proofs.NoneLemmas.{both_none, three_none, not_noted, was_true}
use Rattle.sp_typed.proofs.VisibleLemmas.{HaveTypes, not_unknown, not_bit}
use Rattle.sp_typed.specs.Expressions.{known}
use Rattle.sp_typed.specs.ReadTree.{IsReadExpr, IsReadKind, AreReadExprs}
use Rattle.sp_rules.specs.ExpressionRules.{Names, IsValue, IsElement, IsFifo, HasOperands, IsRight, IsRightKind, AreRight}
use Rattle.sp_rules.proofs.BasicLemmas.{some_there, some_same, counted, name_kept}

-- ---- types that are known

pub type_of_own : (place : ℕ) (ty : Ty) (o : Option Ty) → (o ≡ None → ⊥) → rule.other_type place (Some ty) (own_type o) ≡ [] → o ≡ Some ty
type_of_own place ty None h e = absurd (h refl)
type_of_own place ty (Some t) h e = ap Some (sym (own_is place ty t e))

own_known : (o : Own) → (o ≡ Unknown → ⊥) → own_or_int o ≡ Some (known (own_or_int o))
own_known Nothing h = refl
own_known (Known ty) h = refl
own_known Unknown h = absurd (h refl)

either_known : (a b : Own) → (a ≡ Unknown → ⊥) → (b ≡ Unknown → ⊥) → either a b ≡ Unknown → ⊥
either_known Nothing b p q e = q e
either_known (Known ty) b p q e = p e
either_known Unknown b p q e = p refl

not_a_bit : (place : ℕ) (want : Ty) (o : Own) → rule.other_type place (Some want) o ≡ [] → rule.is_bit o ≡ false → (o ≡ Nothing → want ≡ Bit → ⊥) → (o ≡ Unknown → ⊥) → want ≢ Bit
not_a_bit place want Nothing e b n u w = n refl w
not_a_bit place want (Known Bit) e b n u w = true≢false b
not_a_bit place want (Known (Fix fix)) e b n u w = absurd (let f : want ≡ Fix fix = own_is place want (Fix fix) e in cc)
not_a_bit place want Unknown e b n u w = u refl

and_right : (a b : Bool) → a ≡ true → (a && b) ≡ false → b ≡ false
and_right true b e h = h
and_right false b e h = absurd (cc)

neither : (a b : Bool) → (a || not b) ≡ false → (a ≡ false) × (b ≡ true)
neither true b h = absurd (true≢false h)
neither false b h = (refl, was_true b h)

pub none_is : (o : Option Ty) → is_none o ≡ false → o ≡ None → ⊥
none_is o e f = true≢false (sym (ap is_none f) ∙ e)

-- an operand of a cast has a type at which it is checked
cast_known : (seen : Visible) (a : PlainExpr) (target : SynTy) → is_none (type_of target) ≡ false → (own seen a ≡ Unknown → ⊥) → (from : Ty) × (rule.cast_from seen a target ≡ Some from)
cast_known seen (expr place (number d)) target t u = some_there (type_of target) t
cast_known seen (expr place (truth b)) target t u = (_, own_known (own seen (expr place (truth b))) u)
cast_known seen (expr place (name i v)) target t u = (_, own_known (own seen (expr place (name i v))) u)
cast_known seen (expr place (deq i)) target t u = (_, own_known (own seen (expr place (deq i))) u)
cast_known seen (expr place (access i indices)) target t u = (_, own_known (own seen (expr place (access i indices))) u)
cast_known seen (expr place (mux c a b)) target t u = (_, own_known (own seen (expr place (mux c a b))) u)
cast_known seen (expr place (min a b)) target t u = (_, own_known (own seen (expr place (min a b))) u)
cast_known seen (expr place (max a b)) target t u = (_, own_known (own seen (expr place (max a b))) u)
cast_known seen (expr place (one op a)) target t u = (_, own_known (own seen (expr place (one op a))) u)
cast_known seen (expr place (two op a b)) target t u = (_, own_known (own seen (expr place (two op a b))) u)
cast_known seen (expr place (shift left a by)) target t u = (_, own_known (own seen (expr place (shift left a by))) u)
cast_known seen (expr place (cast a ty)) target t u = (_, own_known (own seen (expr place (cast a ty))) u)

-- ---- what a name stands for

value_is : (dotted : Bool) (s : PlainSymbol) (ty : Ty) → symbol_type (Some s) ≡ Some ty → rule.is_value dotted (Some s) ≡ true → IsValue dotted s ty
value_is dotted (memory Reg t dims) ty e v = e
value_is dotted (memory ArgIn t dims) ty e v = e
value_is dotted (memory _ t dims) ty e v = absurd (cc)
value_is true (value t) ty e v = absurd (cc)
value_is false (value t) ty e v = (refl, e)
value_is true counter ty e v = absurd (cc)
value_is false counter ty e v = (refl, some_same int_type ty e)

fifo_is : (s : PlainSymbol) (ty : Ty) → symbol_type (Some s) ≡ Some ty → rule.may_be Fifo (Some s) ≡ true → IsFifo s ty
fifo_is (memory Fifo t dims) ty e v = e
fifo_is (memory _ t dims) ty e v = absurd (cc)
fifo_is (value t) ty e v = absurd (cc)
fifo_is counter ty e v = absurd (cc)

element_is : (place got : ℕ) (s : PlainSymbol) (ty : Ty) → symbol_type (Some s) ≡ Some ty → 1 ≤ got → rule.access_refusals place (Some s) got ≡ [] → IsElement s got ty
element_is place got (memory Sram t dims) ty e some none = (e, counted place (length dims) got none)
element_is place got (memory LineBuf t dims) ty e some none = (e, counted place 2 got none)
element_is place got (memory Reg t dims) ty e some none = absurd (let f = counted place 0 got none in omega arith)
element_is place got (memory Fifo t dims) ty e some none = absurd (let f = counted place 0 got none in omega arith)
element_is place got (memory ArgIn t dims) ty e some none = absurd (let f = counted place 0 got none in omega arith)
element_is place got (memory Dram t dims) ty e some none = absurd (cc)
element_is place got (memory ArgOut t dims) ty e some none = absurd (cc)
element_is place got (value t) ty e some none = absurd (let f = counted place 0 got none in omega arith)
element_is place got counter ty e some none = absurd (let f = counted place 0 got none in omega arith)

-- the operands of an operation
operands : (c : Bool) (compared : Option Ty) (from ty : Ty) → compared ≡ Some from → (c ≡ true → ty ≡ Bit) → HasOperands c compared (cond c from ty) ty
operands true compared from ty e b = (e, b refl)
operands false compared from ty e b = refl

choose : (c : Bool) (a b : Option Ty) (x y : Ty) → a ≡ Some x → b ≡ Some y → cond c a b ≡ Some (cond c x y)
choose true a b x y e f = e
choose false a b x y e f = f

own_of_choice : (c : Bool) (a b : Own) → c ≡ true → cond c (Known Bit) (either a b) ≡ Known Bit
own_of_choice true a b e = refl
own_of_choice false a b e = absurd (cc)

module _ (seen : Visible) (types : HaveTypes seen) where
  -- a name that is visible has a type
  has_type : (i : PlainIdent) (s : PlainSymbol) → Names seen i s → symbol_type (symbol_of seen i.text) ≡ None → ⊥
  has_type i s n e = absurd (let f : Some s ≡ None = sym n.is ∙ types i.text e in cc)

  pub symbol_has : (i : PlainIdent) (s : PlainSymbol) → Names seen i s → symbol_type (Some s) ≡ Some (known (symbol_type (symbol_of seen i.text)))
  symbol_has i s n = ap symbol_type (sym n.is) ∙ known_there (symbol_type (symbol_of seen i.text)) (has_type i s n)
    where
      known_there : (o : Option Ty) → (o ≡ None → ⊥) → o ≡ Some (known o)
      known_there None h = absurd (h refl)
      known_there (Some ty) h = refl

  typed_as : (i : PlainIdent) (s : PlainSymbol) (place : ℕ) (ty : Ty) → Names seen i s → rule.other_type place (Some ty) (own_type (symbol_type (symbol_of seen i.text))) ≡ [] → symbol_type (Some s) ≡ Some ty
  typed_as i s place ty n other = ap symbol_type (sym n.is) ∙ type_of_own place ty (symbol_type (symbol_of seen i.text)) (has_type i s n) other

  -- the type of an expression by itself, or `Int`
  pub by_itself : (ask : Ask) (e : PlainExpr) → rule.expr_refusals seen ask e ≡ [] → own_or_int (own seen e) ≡ Some (known (own_or_int (own seen e)))
  by_itself ask e none = own_known (own seen e) (not_unknown seen types ask e none)

  is_number : (ask : Ask) (ty : Ty) (e : PlainExpr) → ask.want ≡ Some ty → ask.number ≡ true → rule.expr_refusals seen ask e ≡ [] → IsNumber ty
  is_number ask ty (expr place kind) want must none w =
      let f = three_none (rule.other_type place ask.want (kind_own seen kind)) (rule.no_number place ask.number (kind_own seen kind)) _ none in
      let g : rule.other_type place (Some ty) (kind_own seen kind) ≡ [] = ap (λ o. rule.other_type place o (kind_own seen kind)) (sym want) ∙ f.0 in
      let b : rule.is_bit (kind_own seen kind) ≡ false = and_right ask.number _ must (not_noted _ _ f.1) in
      not_a_bit place ty (kind_own seen kind) g b (λ n u. not_bit seen ask (expr place kind) (want ∙ ap Some u) none n) (not_unknown seen types ask (expr place kind) none) w

  compared : (ask : Ask) (a b : PlainExpr) → rule.expr_refusals seen ask a ≡ [] → rule.expr_refusals seen ask b ≡ [] → compared_at seen a b ≡ Some (known (compared_at seen a b))
  compared ask a b f g = own_known (either (own seen a) (own seen b)) (either_known _ _ (not_unknown seen types ask a f) (not_unknown seen types ask b g))

  mutual
    pub expr_kept : (ask : Ask) (ty : Ty) (e : PlainExpr) → ask.want ≡ Some ty → IsReadExpr e → rule.expr_refusals seen ask e ≡ [] → IsRight seen ask.still ty e
    expr_kept ask ty (expr place kind) want read none =
        let f = three_none (rule.other_type place ask.want (kind_own seen kind)) (rule.no_number place ask.number (kind_own seen kind)) (rule.kind_refusals seen ask place kind) none in
        kind_kept ask ty place kind want read (ap (λ o. rule.other_type place o (kind_own seen kind)) (sym want) ∙ f.0) f.2

    kind_kept : (ask : Ask) (ty : Ty) (place : ℕ) (kind : PlainExprKind) → ask.want ≡ Some ty → IsReadKind kind → rule.other_type place (Some ty) (kind_own seen kind) ≡ []
        → rule.kind_refusals seen ask place kind ≡ [] → IsRightKind seen ask.still ty kind
    kind_kept ask ty place (number d) want read other none =
        some_there _ (not_noted _ _ (ap (λ o. rule.literal_refusals place o d) (sym want) ∙ none))
    kind_kept ask ty place (truth b) want read other none = own_is place ty Bit other
    kind_kept ask ty place (name i v) want read other none =
        let f = both_none (rule.name_refusals seen i) _ none in
        let n = name_kept seen i f.0 in
        (n.0, n.1, value_is v n.0 ty (typed_as i n.0 place ty n.1 other) (ap (rule.is_value v) (sym n.1.is) ∙ was_true _ (not_noted _ _ f.1)))
    kind_kept ask ty place (deq i) want read other none =
        let f = both_none (rule.name_refusals seen i) _ none in
        let n = name_kept seen i f.0 in
        let g = neither ask.still (rule.may_be Fifo (symbol_of seen i.text)) (not_noted _ _ f.1) in
        (n.0, n.1, fifo_is n.0 ty (typed_as i n.0 place ty n.1 other) (ap (rule.may_be Fifo) (sym n.1.is) ∙ g.1), g.0)
    kind_kept ask ty place (access i indices) want read other none =
        let got = rule.index_count indices in
        let f = three_none (rule.name_refusals seen i) (rule.access_refusals i.place (symbol_of seen i.text) got) (rule.exprs_refusals seen (rule.at_type (Some int_type) ask.still) indices) none in
        let n = name_kept seen i f.0 in (
          n.0,
          n.1,
          element_is i.place got n.0 ty (typed_as i n.0 place ty n.1 other) read.0 (ap (λ o. rule.access_refusals i.place o got) (sym n.1.is) ∙ f.1),
          exprs_kept (rule.at_type (Some int_type) ask.still) int_type indices refl read.1 f.2,
        )
    kind_kept ask ty place (mux c a b) want read other none =
        let f = three_none (rule.expr_refusals seen (rule.at_type (Some Bit) ask.still) c) (rule.expr_refusals seen (rule.operand ask false) a) (rule.expr_refusals seen (rule.operand ask false) b) none in
        (expr_kept (rule.at_type (Some Bit) ask.still) Bit c refl read.0 f.0, expr_kept (rule.operand ask false) ty a want read.1 f.1, expr_kept (rule.operand ask false) ty b want read.2 f.2)
    kind_kept ask ty place (min a b) want read other none =
        let f = both_none (rule.expr_refusals seen (rule.operand ask true) a) (rule.expr_refusals seen (rule.operand ask true) b) none in
        (is_number (rule.operand ask true) ty a want refl f.0, expr_kept (rule.operand ask true) ty a want read.0 f.0, expr_kept (rule.operand ask true) ty b want read.1 f.1)
    kind_kept ask ty place (max a b) want read other none =
        let f = both_none (rule.expr_refusals seen (rule.operand ask true) a) (rule.expr_refusals seen (rule.operand ask true) b) none in
        (is_number (rule.operand ask true) ty a want refl f.0, expr_kept (rule.operand ask true) ty a want read.0 f.0, expr_kept (rule.operand ask true) ty b want read.1 f.1)
    kind_kept ask ty place (one Minus a) want read other none = (is_number (rule.operand ask true) ty a want refl none, expr_kept (rule.operand ask true) ty a want read none)
    kind_kept ask ty place (one Bang a) want read other none = (own_is place ty Bit other, expr_kept (rule.at_type (Some Bit) ask.still) Bit a refl read none)
    kind_kept ask ty place (one Tilde a) want read other none = (is_number (rule.operand ask true) ty a want refl none, expr_kept (rule.operand ask true) ty a want read none)
    kind_kept ask ty place (two op a b) want read other none =
        let inner = rule.binary_ask seen op ask a b in
        let f = both_none (rule.expr_refusals seen inner a) (rule.expr_refusals seen inner b) none in
        let c = compared inner a b f.0 f.1 in
        let from = cond (is_comparison op) (known (compared_at seen a b)) ty in
        let w = choose (is_comparison op) (compared_at seen a b) ask.want (known (compared_at seen a b)) ty c want in (
          from,
          operands (is_comparison op) (compared_at seen a b) (known (compared_at seen a b)) ty c
              (λ e. own_is place ty Bit (ap (λ o. rule.other_type place (Some ty) o) (sym (own_of_choice (is_comparison op) (own seen a) (own seen b) e)) ∙ other)),
          (λ n. is_number inner from a w n f.0),
          expr_kept inner from a w read.0 f.0,
          expr_kept inner from b w read.1 f.1,
        )
    kind_kept ask ty place (shift left a by) want read other none = (is_number (rule.operand ask true) ty a want refl none, expr_kept (rule.operand ask true) ty a want read.0 none)
    kind_kept ask ty place (cast a target) want read other none =
        let inner = rule.at_type (rule.cast_from seen a target) ask.still in
        let f = both_none (rule.expr_refusals seen inner a) (rule.type_refusals target) none in
        let t = not_noted _ _ f.1 in
        let from = cast_known seen a target t (not_unknown seen types inner a f.0) in
        (from.0, type_of_own place ty (type_of target) (none_is (type_of target) t) other, from.1, expr_kept inner from.0 a from.1 read f.0)

    pub exprs_kept : (ask : Ask) (ty : Ty) (es : PlainExprs) → ask.want ≡ Some ty → AreReadExprs es → rule.exprs_refusals seen ask es ≡ [] → AreRight seen ask.still ty es
    exprs_kept ask ty no_expr want read none = tt
    exprs_kept ask ty (more_expr e rest) want read none =
        let f = both_none (rule.expr_refusals seen ask e) (rule.exprs_refusals seen ask rest) none in
        (expr_kept ask ty e want read.0 f.0, exprs_kept ask ty rest want read.1 f.1)
