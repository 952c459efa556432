-- Expressions without refusals are typed.
use Rattle.std.proofs.Common.{◌≡◌, ◌≢◌, ℕ, ◌+◌, ◌≤◌, Bool, true, false, cond, not, ◌&&◌, ◌||◌, List, [], length, Option, Some, None, is_none, refl, sym, ap, subst, ◌∙◌, true≢false, arith}
use Rattle.std.specs.Prelude.{Contains}
use Rattle.std.proofs.lemmas.Bool.{eqb-true}
use Rattle.sp_words.specs.declared.kind.BinOp.{BinOp}
use Rattle.sp_words.specs.declared.kind.BinOp.TheVariants as binary
use Rattle.sp_words.specs.declared.kind.Kind.{Kind}
use Rattle.sp_words.specs.declared.kind.Kind.TheVariants.{Reg, Sram, Fifo, LineBuf, Dram, ArgIn, ArgOut}
use Rattle.sp_words.specs.declared.types.Ty.{Ty}
use Rattle.sp_words.specs.declared.types.Ty.TheVariants.{Fix, Bit}
use Rattle.sp_words.specs.Types.{int_type}
use Rattle.sp_words.proofs.TypeLemmas.{same_fix}
use Rattle.sp_reader.specs.declared.syntax.expression.SynTy.{SynTy}
use Rattle.sp_reader.specs.declared.syntax.expression.SynUn.TheVariants.{Minus, Bang, Tilde}
use Rattle.sp_reader.specs.PlainTree.{PlainDigits, PlainExpr, PlainExprKind, PlainExprs, expr, number, truth, name, deq, access, mux, min, max, one, two, shift, cast, no_expr, more_expr}
use Rattle.sp_tree.specs.PlainExpression as program
use Rattle.sp_tree.specs.PlainProgram.{PlainProgram}
use Rattle.sp_tree.specs.Typing.{Scope, IsMem, Typed, KindTyped, IndicesTyped, TwoTyped, IsNumber, expr_count}
use Rattle.sp_types.specs.declared.own.Ask.{Ask}
use Rattle.sp_types.specs.declared.own.Own.{Own}
use Rattle.sp_types.specs.declared.own.Own.TheVariants.{Nothing, Known, Unknown}
use Rattle.sp_types.specs.Expressions as rule
use Rattle.sp_types.specs.Types.{is_type, is_same_flag, own, kind_own, own_type, symbol_type, either, is_comparison, takes_numbers, own_or_int, compared_at}
use Rattle.sp_types.specs.Visible.{PlainSymbol, memory, value, counter, Visible, symbol_of, lookup}
use Rattle.sp_typed.specs.Expressions.{known, type_by_itself, number_if, symbol_if, named_word, digits_of, cast_if, line_element, element, is_line, operand_type, typed, kind_typed, all_typed}
use Rattle.sp_typed.specs.Laws.{Stands, Agree}
use Rattle.sp_typed.specs.Named.{Meant, Here, meant_by, seen_at}
use Rattle.sp_typed.specs.ReadTree.{IsReadExpr, IsReadKind, AreReadExprs}
use Rattle.sp_typed.proofs.DeclaredLemmas.{number_is_word, truth_is_word}
use Rattle.sp_typed.proofs.NoneLemmas.{both_none, three_none, not_noted, was_true}
use Rattle.sp_typed.proofs.ScopeLemmas.{seen_symbol}
use Rattle.sp_typed.proofs.VisibleLemmas.{own_same, HaveTypes, not_unknown, not_bit}

-- ---- tests

both_true : (a b : Bool) → (a && b) ≡ true → (a ≡ true) × (b ≡ true)
both_true true b e = (refl, e)
both_true false b e = absurd (cc)

same_flag : (a b : Bool) → is_same_flag a b ≡ true → a ≡ b
same_flag true true e = refl
same_flag true false e = absurd (cc)
same_flag false true e = absurd (cc)
same_flag false false e = refl

pub same_type : (a b : Ty) → is_type a b ≡ true → a ≡ b
same_type Bit Bit e = refl
same_type (Fix a) (Fix b) e =
    let f = both_true _ _ e in
    let g = both_true _ _ f.1 in
    ap Fix (same_fix a b (same_flag _ _ f.0) (eqb-true _ _ g.0) (eqb-true _ _ g.1))
same_type Bit (Fix b) e = absurd (cc)
same_type (Fix a) Bit e = absurd (cc)

pub same_kind : (a b : Kind) → rule.is_kind a b ≡ true → a ≡ b
same_kind Reg Reg e = refl
same_kind Sram Sram e = refl
same_kind Fifo Fifo e = refl
same_kind LineBuf LineBuf e = refl
same_kind Dram Dram e = refl
same_kind ArgIn ArgIn e = refl
same_kind ArgOut ArgOut e = refl
same_kind _ _ e = absurd (cc)

-- an expression is of the type at which it is checked
pub own_is : (place : ℕ) (want got : Ty) → rule.other_type place (Some want) (Known got) ≡ [] → want ≡ got
own_is place want got e = same_type want got (was_true _ (not_noted _ _ e))

pub named_type : (place : ℕ) (want got : Ty) (o : Option Ty) → o ≡ Some got → rule.other_type place (Some want) (own_type o) ≡ [] → got ≡ want
named_type place want got None e h = absurd (cc)
named_type place want got (Some ty) e h =
    let f : ty ≡ got = cc in
    sym f ∙ sym (own_is place want ty h)

pub type_is : (here : Here) (ty : Ty) (e : PlainExpr) → program.type_of (typed here ty e) ≡ ty
type_is here ty (expr place kind) = refl

pub count_is : (here : Here) (es : PlainExprs) → expr_count (all_typed here int_type es) ≡ rule.index_count es
count_is here no_expr = refl
count_is here (more_expr e rest) = ap (λ n. 1 + n) (count_is here rest) ∙ omega arith

two_typed : (op : BinOp) (from to : Ty) → (takes_numbers op ≡ true → IsNumber from) → (is_comparison op ≡ false → from ≡ to) → (is_comparison op ≡ true → to ≡ Bit) → TwoTyped op from to
two_typed binary.And from to n s c = s refl
two_typed binary.Or from to n s c = s refl
two_typed binary.Xor from to n s c = s refl
two_typed binary.Lt from to n s c = (n refl, c refl)
two_typed binary.Le from to n s c = (n refl, c refl)
two_typed binary.Gt from to n s c = (n refl, c refl)
two_typed binary.Ge from to n s c = (n refl, c refl)
two_typed binary.Eq from to n s c = c refl
two_typed binary.Ne from to n s c = c refl
two_typed binary.Add from to n s c = (s refl, n refl)
two_typed binary.Sub from to n s c = (s refl, n refl)
two_typed binary.Mul from to n s c = (s refl, n refl)
two_typed binary.Div from to n s c = (s refl, n refl)
two_typed binary.Rem from to n s c = (s refl, n refl)
two_typed binary.Min from to n s c = (s refl, n refl)
two_typed binary.Max from to n s c = (s refl, n refl)

known_or_int : (o : Own) → (o ≡ Unknown → ⊥) → own_or_int o ≡ Some (known (own_or_int o))
known_or_int Nothing h = refl
known_or_int (Known ty) h = refl
known_or_int Unknown h = absurd (h refl)

own_of_choice : (c : Bool) (a b : Own) → c ≡ true → cond c (Known Bit) (either a b) ≡ Known Bit
own_of_choice true a b e = refl
own_of_choice false a b e = absurd (cc)

-- a number is wanted, and no `Bit` is there
not_a_bit : (place : ℕ) (want : Ty) (o : Own) → rule.other_type place (Some want) o ≡ [] → rule.is_bit o ≡ false → (o ≡ Nothing → want ≡ Bit → ⊥) → (o ≡ Unknown → ⊥) → want ≢ Bit
not_a_bit place want Nothing e b n u w = n refl w
not_a_bit place want (Known Bit) e b n u w = true≢false b
not_a_bit place want (Known (Fix fix)) e b n u w = absurd (let f : want ≡ Fix fix = own_is place want (Fix fix) e in cc)
not_a_bit place want Unknown e b n u w = u refl

and_right : (a b : Bool) → a ≡ true → (a && b) ≡ false → b ≡ false
and_right true b e h = h
and_right false b e h = absurd (cc)

or_right : (a b : Bool) → (a || not b) ≡ false → b ≡ true
or_right true b h = absurd (cc)
or_right false b h = was_true b h

either_known : (a b : Own) → (a ≡ Unknown → ⊥) → (b ≡ Unknown → ⊥) → either a b ≡ Unknown → ⊥
either_known Nothing b p q e = q e
either_known (Known ty) b p q e = p e
either_known Unknown b p q e = p refl

cast_from_is : (seen : Visible) (a : PlainExpr) (target : SynTy) → digits_of a ≡ None → rule.cast_from seen a target ≡ own_or_int (own seen a)
cast_from_is seen (expr place (number d)) target e = absurd (cc)
cast_from_is seen (expr place (truth b)) target e = refl
cast_from_is seen (expr place (name i v)) target e = refl
cast_from_is seen (expr place (deq i)) target e = refl
cast_from_is seen (expr place (access i indices)) target e = refl
cast_from_is seen (expr place (mux c a b)) target e = refl
cast_from_is seen (expr place (min a b)) target e = refl
cast_from_is seen (expr place (max a b)) target e = refl
cast_from_is seen (expr place (one op a)) target e = refl
cast_from_is seen (expr place (two op a b)) target e = refl
cast_from_is seen (expr place (shift left a by)) target e = refl
cast_from_is seen (expr place (cast a ty)) target e = refl

choose : (c : Bool) (a b : Option Ty) (x y : Ty) → a ≡ Some x → b ≡ Some y → cond c a b ≡ Some (cond c x y)
choose true a b x y e f = e
choose false a b x y e f = f

-- ---- names

module _ (p : PlainProgram) (scope : Scope) where
  typeless : (s : PlainSymbol) (n : ℕ) → Stands p scope s n → symbol_type (Some s) ≡ None → ⊥
  typeless (memory kind (Some ty) dims) n h e = cc
  typeless (memory kind None dims) n h e = h
  typeless (value (Some ty)) n h e = cc
  typeless (value None) n h e = h
  typeless counter n h e = cc

  -- what stands has a type
  has_type : (o : Option Meant) → ((m : Meant) → o ≡ Some m → Stands p scope m.symbol m.number) → symbol_type (symbol_if o) ≡ None → symbol_if o ≡ None
  has_type None h e = refl
  has_type (Some m) h e = absurd (typeless m.symbol m.number (h m refl) e)

  -- so has what is visible
  pub seen_is : (here : Here) (seen : Visible) → seen.names ≡ (seen_at here).names → (text : List ℕ) → symbol_of seen text ≡ symbol_if (meant_by here text)
  seen_is here seen same text = ap (λ ns. lookup ns text) same ∙ seen_symbol here.names text

  pub have_types : (here : Here) (seen : Visible) → Agree p scope here.names → seen.names ≡ (seen_at here).names → HaveTypes seen
  have_types here seen agree same text e =
      seen_is here seen same text ∙ has_type (meant_by here text) (agree text) (ap symbol_type (sym (seen_is here seen same text)) ∙ e)

  -- a word by its name
  symbol_typed : (s : PlainSymbol) (n : ℕ) (place : ℕ) (ty : Ty) (dotted : Bool) → Stands p scope s n → rule.is_value dotted (Some s) ≡ true → rule.other_type place (Some ty) (own_type (symbol_type (Some s))) ≡ []
      → KindTyped p scope (named_word n (Some s)) ty
  symbol_typed (memory Reg (Some t) dims) n place ty dotted h v e = record { seen = h.0.seen; is_kind = h.0.is_kind; is_type = h.0.is_type ∙ sym (own_is place ty t e) }
  symbol_typed (memory ArgIn (Some t) dims) n place ty dotted h v e = record { seen = h.0.seen; is_kind = h.0.is_kind; is_type = h.0.is_type ∙ sym (own_is place ty t e) }
  symbol_typed (memory _ (Some t) dims) n place ty dotted h v e = absurd (cc)
  symbol_typed (memory kind None dims) n place ty dotted h v e = absurd h
  symbol_typed (value (Some t)) n place ty dotted h v e = subst (λ x. Contains scope.vals (n, x)) (sym (own_is place ty t e)) h
  symbol_typed (value None) n place ty dotted h v e = absurd h
  symbol_typed counter n place ty dotted h v e = (h, own_is place ty int_type e)

  meant_typed : (o : Option Meant) (place : ℕ) (ty : Ty) (dotted : Bool) → ((m : Meant) → o ≡ Some m → Stands p scope m.symbol m.number) → is_none (symbol_if o) ≡ false → rule.is_value dotted (symbol_if o) ≡ true
      → rule.other_type place (Some ty) (own_type (symbol_type (symbol_if o))) ≡ [] → KindTyped p scope (named_word (number_if o) (symbol_if o)) ty
  meant_typed None place ty dotted h s v e = absurd (true≢false s)
  meant_typed (Some m) place ty dotted h s v e = symbol_typed m.symbol m.number place ty dotted (h m refl) v e

  -- a word from a FIFO
  fifo_typed : (s : PlainSymbol) (n : ℕ) (place : ℕ) (ty : Ty) → Stands p scope s n → rule.may_be Fifo (Some s) ≡ true → rule.other_type place (Some ty) (own_type (symbol_type (Some s))) ≡ [] → IsMem p scope n Fifo ty
  fifo_typed (memory kind (Some t) dims) n place ty h v e = record { seen = h.0.seen; is_kind = h.0.is_kind ∙ sym (same_kind Fifo kind v); is_type = h.0.is_type ∙ sym (own_is place ty t e) }
  fifo_typed (memory kind None dims) n place ty h v e = absurd h
  fifo_typed (value ty) n place t h v e = absurd (cc)
  fifo_typed counter n place ty h v e = absurd (cc)

  deq_typed : (o : Option Meant) (place : ℕ) (ty : Ty) → ((m : Meant) → o ≡ Some m → Stands p scope m.symbol m.number) → is_none (symbol_if o) ≡ false → rule.may_be Fifo (symbol_if o) ≡ true
      → rule.other_type place (Some ty) (own_type (symbol_type (symbol_if o))) ≡ [] → IsMem p scope (number_if o) Fifo ty
  deq_typed None place ty h s v e = absurd (true≢false s)
  deq_typed (Some m) place ty h s v e = fifo_typed m.symbol m.number place ty (h m refl) v e

  -- ---- elements

  line_typed : (here : Here) (n : ℕ) (ty : Ty) (indices : PlainExprs) → IsMem p scope n LineBuf ty → rule.index_count indices ≡ 2 → IndicesTyped p scope (all_typed here int_type indices)
      → KindTyped p scope (line_element n (all_typed here int_type indices)) ty
  line_typed here n ty no_expr m c h = absurd (omega arith)
  line_typed here n ty (more_expr a no_expr) m c h = absurd (omega arith)
  line_typed here n ty (more_expr a (more_expr b no_expr)) m c h = (m, h.0, h.1, h.2.0, h.2.1)
  line_typed here n ty (more_expr a (more_expr b (more_expr d rest))) m c h = absurd (omega arith)

  counted : (want got : ℕ) (place : ℕ) → rule.count_refusals place want got ≡ [] → want ≡ got
  counted want got place e = eqb-true want got (was_true _ (not_noted _ _ e))

  element_typed : (here : Here) (s : PlainSymbol) (n : ℕ) (place at : ℕ) (ty : Ty) (indices : PlainExprs) → Stands p scope s n → 1 ≤ rule.index_count indices
      → rule.access_refusals at (Some s) (rule.index_count indices) ≡ [] → rule.other_type place (Some ty) (own_type (symbol_type (Some s))) ≡ [] → IndicesTyped p scope (all_typed here int_type indices)
      → KindTyped p scope (element (is_line (Some s)) n (all_typed here int_type indices)) ty
  element_typed here (memory Sram (Some t) dims) n place at ty indices h some none e typed_indices = (
    record { seen = h.0.seen; is_kind = h.0.is_kind; is_type = h.0.is_type ∙ sym (own_is place ty t e) },
    count_is here indices ∙ sym (counted (length dims) (rule.index_count indices) at none) ∙ ap length (sym h.1),
    typed_indices,
  )
  element_typed here (memory LineBuf (Some t) dims) n place at ty indices h some none e typed_indices =
      line_typed here n ty indices (record { seen = h.0.seen; is_kind = h.0.is_kind; is_type = h.0.is_type ∙ sym (own_is place ty t e) }) (sym (counted 2 (rule.index_count indices) at none)) typed_indices
  element_typed here (memory Reg (Some t) dims) n place at ty indices h some none e typed_indices = absurd (let f = counted 0 (rule.index_count indices) at none in omega arith)
  element_typed here (memory Fifo (Some t) dims) n place at ty indices h some none e typed_indices = absurd (let f = counted 0 (rule.index_count indices) at none in omega arith)
  element_typed here (memory ArgIn (Some t) dims) n place at ty indices h some none e typed_indices = absurd (let f = counted 0 (rule.index_count indices) at none in omega arith)
  element_typed here (memory Dram (Some t) dims) n place at ty indices h some none e typed_indices = absurd (cc)
  element_typed here (memory ArgOut (Some t) dims) n place at ty indices h some none e typed_indices = absurd (cc)
  element_typed here (memory kind None dims) n place at ty indices h some none e typed_indices = absurd h
  element_typed here (value t) n place at ty indices h some none e typed_indices = absurd (let f = counted 0 (rule.index_count indices) at none in omega arith)
  element_typed here counter n place at ty indices h some none e typed_indices = absurd (let f = counted 0 (rule.index_count indices) at none in omega arith)

  access_typed : (here : Here) (o : Option Meant) (place at : ℕ) (ty : Ty) (indices : PlainExprs) → ((m : Meant) → o ≡ Some m → Stands p scope m.symbol m.number) → is_none (symbol_if o) ≡ false → 1 ≤ rule.index_count indices
      → rule.access_refusals at (symbol_if o) (rule.index_count indices) ≡ [] → rule.other_type place (Some ty) (own_type (symbol_type (symbol_if o))) ≡ [] → IndicesTyped p scope (all_typed here int_type indices)
      → KindTyped p scope (element (is_line (symbol_if o)) (number_if o) (all_typed here int_type indices)) ty
  access_typed here None place at ty indices h s some none e typed_indices = absurd (true≢false s)
  access_typed here (Some m) place at ty indices h s some none e typed_indices = element_typed here m.symbol m.number place at ty indices (h m refl) some none e typed_indices

  -- ---- expressions

  cast_typed : (here : Here) (o : Option PlainDigits) (ty : Ty) (e : program.PlainExpr) → (o ≡ None → Typed p scope e) → KindTyped p scope (cast_if o ty e) ty
  cast_typed here (Some d) ty e h = number_is_word ty d
  cast_typed here None ty e h = h refl

  module _ (here : Here) (seen : Visible) (agree : Agree p scope here.names) (same : seen.names ≡ (seen_at here).names) where
    is : (text : List ℕ) → symbol_of seen text ≡ symbol_if (meant_by here text)
    is text = seen_is here seen same text

    types : HaveTypes seen
    types = have_types here seen agree same

    -- the type at which an expression is checked that has no other
    pub by_itself : (ask : Ask) (e : PlainExpr) → rule.expr_refusals seen ask e ≡ [] → own_or_int (own seen e) ≡ Some (type_by_itself here e)
    by_itself ask e none = known_or_int (own seen e) (not_unknown seen types ask e none) ∙ ap (λ o. Some (known (own_or_int o))) (own_same seen (seen_at here) same e)

    compared : (ask : Ask) (a b : PlainExpr) → rule.expr_refusals seen ask a ≡ [] → rule.expr_refusals seen ask b ≡ [] → compared_at seen a b ≡ Some (known (compared_at (seen_at here) a b))
    compared ask a b f g =
        known_or_int (either (own seen a) (own seen b)) (either_known _ _ (not_unknown seen types ask a f) (not_unknown seen types ask b g))
        ∙ ap (λ o. Some (known (own_or_int (either o (own seen b))))) (own_same seen (seen_at here) same a)
        ∙ ap (λ o. Some (known (own_or_int (either (own (seen_at here) a) o)))) (own_same seen (seen_at here) same b)

    binary_want : (op : BinOp) (ask : Ask) (ty : Ty) (a b : PlainExpr) → ask.want ≡ Some ty → compared_at seen a b ≡ Some (known (compared_at (seen_at here) a b))
        → (rule.binary_ask seen op ask a b).want ≡ Some (operand_type here op ty a b)
    binary_want op ask ty a b want c = choose (is_comparison op) (compared_at seen a b) ask.want (known (compared_at (seen_at here) a b)) ty c want

    -- a number isn't a `Bit`
    pub is_number : (ask : Ask) (ty : Ty) (e : PlainExpr) → ask.want ≡ Some ty → ask.number ≡ true → rule.expr_refusals seen ask e ≡ [] → ty ≢ Bit
    is_number ask ty (expr place kind) want must none w =
        let f = three_none (rule.other_type place ask.want (kind_own seen kind)) (rule.no_number place ask.number (kind_own seen kind)) _ none in
        let g : rule.other_type place (Some ty) (kind_own seen kind) ≡ [] = ap (λ o. rule.other_type place o (kind_own seen kind)) (sym want) ∙ f.0 in
        let b : rule.is_bit (kind_own seen kind) ≡ false = and_right ask.number _ must (not_noted _ _ f.1) in
        not_a_bit place ty (kind_own seen kind) g b
        (λ n u. not_bit seen ask (expr place kind) (want ∙ ap Some u) none n)
        (not_unknown seen types ask (expr place kind) none) w

    mutual
      pub expr_right : (ask : Ask) (ty : Ty) (e : PlainExpr) → ask.want ≡ Some ty → IsReadExpr e → rule.expr_refusals seen ask e ≡ [] → Typed p scope (typed here ty e)
      expr_right ask ty (expr place kind) want read none =
          let f = three_none (rule.other_type place ask.want (kind_own seen kind)) (rule.no_number place ask.number (kind_own seen kind)) (rule.kind_refusals seen ask place kind) none in
          kind_right ask ty place kind want read (ap (λ o. rule.other_type place o (kind_own seen kind)) (sym want) ∙ f.0) f.2

      kind_right : (ask : Ask) (ty : Ty) (place : ℕ) (kind : PlainExprKind) → ask.want ≡ Some ty → IsReadKind kind → rule.other_type place (Some ty) (kind_own seen kind) ≡ []
          → rule.kind_refusals seen ask place kind ≡ [] → KindTyped p scope (kind_typed here ty kind) ty
      kind_right ask ty place (number d) want read other none = number_is_word ty d
      kind_right ask ty place (truth b) want read other none = truth_is_word ty b
      kind_right ask ty place (name i v) want read other none =
          let f = both_none (rule.name_refusals seen i) _ none in
          let g = both_none _ _ f.0 in
          meant_typed (meant_by here i.text) place ty v (agree i.text)
          (ap is_none (sym (is i.text)) ∙ not_noted _ _ g.0)
          (ap (rule.is_value v) (sym (is i.text)) ∙ was_true _ (not_noted _ _ f.1))
          (ap (λ o. rule.other_type place (Some ty) (own_type (symbol_type o))) (sym (is i.text)) ∙ other)
      kind_right ask ty place (deq i) want read other none =
          let f = both_none (rule.name_refusals seen i) _ none in
          let g = both_none _ _ f.0 in
          deq_typed (meant_by here i.text) place ty (agree i.text)
          (ap is_none (sym (is i.text)) ∙ not_noted _ _ g.0)
          (ap (rule.may_be Fifo) (sym (is i.text)) ∙ or_right ask.still _ (not_noted _ _ f.1))
          (ap (λ o. rule.other_type place (Some ty) (own_type (symbol_type o))) (sym (is i.text)) ∙ other)
      kind_right ask ty place (access i indices) want read other none =
          let f = three_none (rule.name_refusals seen i) (rule.access_refusals i.place (symbol_of seen i.text) (rule.index_count indices)) (rule.exprs_refusals seen (rule.at_type (Some int_type) ask.still) indices) none in
          let g = both_none _ _ f.0 in
          access_typed here (meant_by here i.text) place i.place ty indices (agree i.text)
          (ap is_none (sym (is i.text)) ∙ not_noted _ _ g.0) read.0
          (ap (λ o. rule.access_refusals i.place o (rule.index_count indices)) (sym (is i.text)) ∙ f.1)
          (ap (λ o. rule.other_type place (Some ty) (own_type (symbol_type o))) (sym (is i.text)) ∙ other)
          (all_right (rule.at_type (Some int_type) ask.still) indices refl read.1 f.2)
      kind_right ask ty place (mux c a b) want read other none =
          let f = three_none (rule.expr_refusals seen (rule.at_type (Some Bit) ask.still) c) (rule.expr_refusals seen (rule.operand ask false) a) (rule.expr_refusals seen (rule.operand ask false) b) none in (
            expr_right (rule.at_type (Some Bit) ask.still) Bit c refl read.0 f.0,
            type_is here Bit c,
            expr_right (rule.operand ask false) ty a want read.1 f.1,
            type_is here ty a,
            expr_right (rule.operand ask false) ty b want read.2 f.2,
            type_is here ty b,
          )
      kind_right ask ty place (min a b) want read other none =
          let f = both_none (rule.expr_refusals seen (rule.operand ask true) a) (rule.expr_refusals seen (rule.operand ask true) b) none in (
            expr_right (rule.operand ask true) ty a want read.0 f.0,
            expr_right (rule.operand ask true) ty b want read.1 f.1,
            type_is here ty a ∙ sym (type_is here ty b),
            (type_is here ty a, λ w. is_number (rule.operand ask true) ty a want refl f.0 (sym (type_is here ty a) ∙ w)),
          )
      kind_right ask ty place (max a b) want read other none =
          let f = both_none (rule.expr_refusals seen (rule.operand ask true) a) (rule.expr_refusals seen (rule.operand ask true) b) none in (
            expr_right (rule.operand ask true) ty a want read.0 f.0,
            expr_right (rule.operand ask true) ty b want read.1 f.1,
            type_is here ty a ∙ sym (type_is here ty b),
            (type_is here ty a, λ w. is_number (rule.operand ask true) ty a want refl f.0 (sym (type_is here ty a) ∙ w)),
          )
      kind_right ask ty place (one Minus a) want read other none =
          (expr_right (rule.operand ask true) ty a want read none, (type_is here ty a, λ w. is_number (rule.operand ask true) ty a want refl none (sym (type_is here ty a) ∙ w)))
      kind_right ask ty place (one Bang a) want read other none =
          (expr_right (rule.at_type (Some Bit) ask.still) Bit a refl read none, type_is here Bit a ∙ sym (own_is place ty Bit other))
      kind_right ask ty place (one Tilde a) want read other none = (expr_right (rule.operand ask true) ty a want read none, type_is here ty a)
      kind_right ask ty place (two op a b) want read other none =
          let f = both_none (rule.expr_refusals seen (rule.binary_ask seen op ask a b) a) (rule.expr_refusals seen (rule.binary_ask seen op ask a b) b) none in
          let inner = operand_type here op ty a b in
          let w = binary_want op ask ty a b want (compared (rule.binary_ask seen op ask a b) a b f.0 f.1) in (
            expr_right (rule.binary_ask seen op ask a b) inner a w read.0 f.0,
            expr_right (rule.binary_ask seen op ask a b) inner b w read.1 f.1,
            type_is here inner a ∙ sym (type_is here inner b),
            two_typed op (program.type_of (typed here inner a)) ty
                (λ n k. is_number (rule.binary_ask seen op ask a b) inner a w n f.0 (sym (type_is here inner a) ∙ k))
                (λ c. type_is here inner a ∙ ap (λ q. cond q (known (compared_at (seen_at here) a b)) ty) c)
                (λ c. own_is place ty Bit (ap (λ o. rule.other_type place (Some ty) o) (sym (own_of_choice (is_comparison op) (own seen a) (own seen b) c)) ∙ other)),
          )
      kind_right ask ty place (shift left a by) want read other none =
          (expr_right (rule.operand ask true) ty a want read.0 none, type_is here ty a, is_number (rule.operand ask true) ty a want refl none, read.1)
      kind_right ask ty place (cast a target) want read other none =
          let f = both_none (rule.expr_refusals seen (rule.at_type (rule.cast_from seen a target) ask.still) a) (rule.type_refusals target) none in
          cast_typed here (digits_of a) ty (typed here (type_by_itself here a) a)
          (λ d. expr_right (rule.at_type (rule.cast_from seen a target) ask.still) (type_by_itself here a) a
          (cast_from_is seen a target d ∙ by_itself (rule.at_type (rule.cast_from seen a target) ask.still) a f.0) read f.0)

      all_right : (ask : Ask) (es : PlainExprs) → ask.want ≡ Some int_type → AreReadExprs es → rule.exprs_refusals seen ask es ≡ [] → IndicesTyped p scope (all_typed here int_type es)
      all_right ask no_expr want read none = tt
      all_right ask (more_expr e rest) want read none =
          let f = both_none (rule.expr_refusals seen ask e) (rule.exprs_refusals seen ask rest) none in
          (expr_right ask int_type e want read.0 f.0, type_is here int_type e, all_right ask rest want read.1 f.1)
