-- A tree of a typed expression has no refusals.
use Rattle.std.proofs.Common.{◌≡◌, ℕ, ◌==◌, ◌||◌, not, Bool, true, false, if◌then◌else◌, eq-eqb, [], ◌++◌, length, Option, Some, is_none, IsTrue, refl, sym, ap, subst, ◌∙◌, arith}
use Rattle.sp_words.specs.declared.kind.BinOp.{BinOp}
use Rattle.sp_words.specs.declared.kind.BinOp.TheVariants as op
use Rattle.sp_words.specs.declared.kind.Kind.TheVariants.{Reg, Sram, Fifo, LineBuf, ArgIn}
use Rattle.sp_words.specs.declared.types.FixTy.{FixTy}
use Rattle.sp_words.specs.declared.types.Ty.{Ty}
use Rattle.sp_words.specs.declared.types.Ty.TheVariants.{Fix, Bit}
use Rattle.sp_words.specs.Types.{int_type}
use Rattle.sp_tree.specs.Footprint.{AllName}
use Rattle.sp_tree.specs.PlainExpression.{PlainExpr, PlainExprs, type_of}
use Rattle.sp_tree.specs.PlainProgram.{PlainProgram}
use Rattle.sp_tree.specs.Streams.{is_fifo}
use Rattle.sp_tree.specs.Typing.{Scope, Typed, IndicesTyped, TwoTyped, IsNumber, mem_at, expr_count}
use Rattle.sp_reader.specs.declared.syntax.expression.SynTy.{SynTy}
use Rattle.sp_reader.specs.declared.syntax.expression.SynTy.TheVariants as written
use Rattle.sp_reader.specs.declared.syntax.expression.SynUn.TheVariants.{Minus, Bang, Tilde}
use Rattle.sp_reader.specs.PlainTree as tree
use Rattle.sp_printer.specs.Names.{names_in}
use Rattle.sp_printed.specs.Trees.{IsTree, AreTrees, IsTypeTree}
use Rattle.sp_types.specs.declared.own.Ask.{Ask}
use Rattle.sp_types.specs.declared.own.Own.{Own}
use Rattle.sp_types.specs.declared.own.Own.TheVariants.{Nothing}
use Rattle.sp_types.specs.Expressions.{other_type, no_number, is_bit, literal_refusals, type_refusals, at_type, operand, binary_ask, index_count, access_refusals, cast_from, is_value, may_be, expr_refusals, kind_refusals, exprs_refusals, name_refusals}
use Rattle.sp_types.specs.declared.refusal.Rule.TheVariants.{Misused}
use Rattle.sp_types.specs.First.{one_if, refused}
use Rattle.sp_types.specs.Literal.{literal_word}
use Rattle.sp_types.specs.Types.{own, kind_own, own_or_int, either, is_comparison, takes_numbers, is_type, type_of as written_type}
use Rattle.sp_types.specs.Visible.{PlainSymbol, Visible, symbol_of, is_busy}
use Rattle.sp_typed.specs.Named.{Here}
use Rattle.sp_retyped.specs.Shown.{Seen, Asked, is_free, is_still}
use Rattle.sp_retyped.proofs.Back.{no_number as is_no_number}
use Rattle.sp_retyped.proofs.Names.{Means, mem_means, val_means, counter_means, none_if, two_none, three_none, name_right}
use Rattle.sp_retyped.proofs.Owns.{OwnIs, either_is, by_itself, same_operands, own_is}
use Rattle.sp_retyped.proofs.Values.{type_is, same_type, literal_is}

-- ---- types

other_none : (place : ℕ) (want : Option Ty) (o : Own) (ty : Ty) → want ≡ Some ty → OwnIs o ty → other_type place want o ≡ []
other_none place want o ty e h = ap (λ w. other_type place w o) e ∙ go h
  where
    go : {o : Own} {ty : Ty} → OwnIs o ty → other_type place (Some ty) o ≡ []
    go (OwnIs.known {ty = ty}) = none_if (not (is_type ty ty)) _ (ap not (same_type ty))
    go OwnIs.nothing = refl

number_none : (place : ℕ) (must : Bool) (o : Own) (ty : Ty) → (must ≡ true → IsNumber ty) → OwnIs o ty → no_number place must o ≡ []
number_none place false o ty f h = refl
number_none place true o ty f h = none_if (is_bit o) _ (go h (f refl))
  where
    go : {o : Own} {ty : Ty} → OwnIs o ty → IsNumber ty → is_bit o ≡ false
    go (OwnIs.known {ty = Bit}) n = absurd (n refl)
    go (OwnIs.known {ty = Fix t}) n = refl
    go OwnIs.nothing n = refl

whole : (seen : Visible) (ask : Ask) (place : ℕ) (kind : tree.PlainExprKind) (ty : Ty) → OwnIs (kind_own seen kind) ty → ask.want ≡ Some ty → (ask.number ≡ true → IsNumber ty) → kind_refusals seen ask place kind ≡ []
    → expr_refusals seen ask (tree.expr place kind) ≡ []
whole seen ask place kind ty o want number k = three_none _ _ _ (other_none place ask.want (kind_own seen kind) ty want o) (number_none place ask.number (kind_own seen kind) ty number o) k

-- a number that has a word of the type
number_quiet : (seen : Visible) (ask : Ask) (place : ℕ) (d : tree.PlainDigits) (ty : Ty) (w : ℕ) → ask.want ≡ Some ty → literal_word ty d ≡ Some w → expr_refusals seen ask (tree.expr place (tree.number d)) ≡ []
number_quiet seen ask place d ty w want word =
    three_none _ _ _ (ap (λ x. other_type place x Nothing) want) (nothing_none ask.number)
    (ap (λ x. literal_refusals place x d) want ∙ none_if (is_none (literal_word ty d)) _ (ap is_none word))
  where
    nothing_none : (b : Bool) → no_number place b Nothing ≡ []
    nothing_none true = refl
    nothing_none false = refl

pub type_none : {ty : Ty} {t : SynTy} → IsTypeTree ty t → type_refusals t ≡ []
type_none {t = t} h = none_if (is_none (written_type t)) _ (ap is_none (type_is h))

takes_number : (o : BinOp) (from to : Ty) → takes_numbers o ≡ true → TwoTyped o from to → IsNumber from
takes_number op.Add from to e h = h.1
takes_number op.Sub from to e h = h.1
takes_number op.Mul from to e h = h.1
takes_number op.Div from to e h = h.1
takes_number op.Rem from to e h = h.1
takes_number op.Lt from to e h = h.0
takes_number op.Le from to e h = h.0
takes_number op.Gt from to e h = h.0
takes_number op.Ge from to e h = h.0
takes_number op.Min from to e h = h.1
takes_number op.Max from to e h = h.1
takes_number op.And from to e h = absurd (cc)
takes_number op.Or from to e h = absurd (cc)
takes_number op.Xor from to e h = absurd (cc)
takes_number op.Eq from to e h = absurd (cc)
takes_number op.Ne from to e h = absurd (cc)

-- the type at which the operands of an operator are checked
asked_at : {a b : Own} (o : BinOp) (from to : Ty) (want : Option Ty) → want ≡ Some to → OwnIs a from → OwnIs b from → TwoTyped o from to → (if is_comparison o then own_or_int (either a b) else want) ≡ Some from
asked_at {a} {b} o from to want e f g h = go (is_comparison o) refl
  where
    go : (c : Bool) → is_comparison o ≡ c → (if c then own_or_int (either a b) else want) ≡ Some from
    go true is = by_itself (either_is f g)
    go false is = e ∙ ap (λ t. Some t) (sym (same_operands o from to is h))

fix_number : (t : FixTy) → IsNumber (Fix t)
fix_number t e = absurd (cc)

pub counts_are : {names : _} {indices : PlainExprs} {all : tree.PlainExprs} → AreTrees names indices all → index_count all ≡ expr_count indices
counts_are AreTrees.no_trees = refl
counts_are (AreTrees.more_trees x rest) = omega (arith, counts_are rest)

rank_none : (place want got : ℕ) → want ≡ got → Rattle.sp_types.specs.Expressions.count_refusals place want got ≡ []
rank_none place want got e = none_if (not (want == got)) _ (ap not (eq-eqb want got e))

module _ (p : PlainProgram) (scope : Scope) (here : Here) (seen : Visible) (s : Seen p scope here seen) where
  free_by : (b : Bool) → not b ≡ true → b ≡ false
  free_by true e = absurd (cc)
  free_by false e = refl

  free_name : (i : tree.PlainIdent) (m : ℕ) → i.text ≡ (mem_at p m).name → IsTrue (is_free p seen m) → is_busy seen i.text ≡ false
  free_name i m text h = ap (is_busy seen) text ∙ free_by (is_busy seen (mem_at p m).name) h

  own_of : {e : PlainExpr} {x : tree.PlainExpr} → IsTree (names_in p) e x → Typed p scope e → OwnIs (own seen x) (type_of e)
  own_of = own_is p scope here s.shown seen s.same

  mem_name_quiet : (i : tree.PlainIdent) (sym_is : PlainSymbol) (m : ℕ) → i.text ≡ (mem_at p m).name → Means here i sym_is m → IsTrue (is_free p seen m) → name_refusals seen i ≡ []
  mem_name_quiet i sym_is m text means free = name_right seen i sym_is (means.seen_is seen s.same) (free_name i m text free)

  word_quiet : (i : tree.PlainIdent) (symbol : PlainSymbol) → name_refusals seen i ≡ [] → symbol_of seen i.text ≡ Some symbol → is_value false (Some symbol) ≡ true
      → name_refusals seen i ++ one_if (not (is_value false (symbol_of seen i.text))) (refused i.place Misused) ≡ []
  word_quiet i symbol n e v = two_none _ _ n (none_if (not (is_value false (symbol_of seen i.text))) _ (ap (λ x. not (is_value false x)) e ∙ ap not v))

  still_by : (b : Bool) (m : ℕ) → (mem_at p m).kind ≡ Fifo → (b ≡ true → IsTrue (is_still p m)) → b ≡ false
  still_by false m e f = refl
  still_by true m e f = let bad : false ≡ true = sym (ap (λ k. not (is_fifo k)) e) ∙ f refl in absurd (cc)

  mutual
    pub quiet : {e : PlainExpr} {x : tree.PlainExpr} → IsTree (names_in p) e x → Typed p scope e → (ask : Ask) → Asked p seen ask e → expr_refusals seen ask x ≡ []
    quiet (IsTree.a_number {place = place} {at = at} {w = w} {t = t} {d = d} e l) h ask a = number_quiet seen ask at d (Fix t) w a.want (literal_is t w d h l)
    quiet (IsTree.a_typed_number {place = place} {at = at} {at2 = at2} {w = w} {t = t} {d = d} {target = target} e l ty) h ask a =
        whole seen ask at (tree.cast (tree.expr at2 (tree.number d)) target) (Fix t) (own_of (IsTree.a_typed_number {place = place} {at = at} {at2 = at2} e l ty) h) a.want a.number
        (two_none _ _ (number_quiet seen (at_type (written_type target) ask.still) at2 d (Fix t) w (type_is ty) (literal_is t w d h l)) (type_none ty))
    quiet (IsTree.a_truth {place = place} {at = at} {w = w}) h ask a = whole seen ask at (tree.truth (not (w == 0))) Bit OwnIs.known a.want a.number refl
    quiet (IsTree.a_counter {place = place} {at = at} {c = c} {ty = ty} {i = i} text) h ask a =
        let means = counter_means p scope here s.shown i c text h.0 in
        whole seen ask at (tree.name i false) ty (own_of (IsTree.a_counter {place = place} {at = at} {i = i} text) h) a.want a.number
        (word_quiet i _ (name_right seen i _ (means.seen_is seen s.same) (ap (is_busy seen) text ∙ s.counter_free c h.0)) (means.seen_is seen s.same) refl)
    quiet (IsTree.a_value {place = place} {at = at} {v = v} {ty = ty} {i = i} text) h ask a =
        let means = val_means p scope here s.shown i v ty text h in
        whole seen ask at (tree.name i false) ty (own_of (IsTree.a_value {place = place} {at = at} {i = i} text) h) a.want a.number
        (word_quiet i _ (name_right seen i _ (means.seen_is seen s.same) (ap (is_busy seen) text ∙ s.val_free v ty h)) (means.seen_is seen s.same) refl)
    quiet (IsTree.a_reg {place = place} {at = at} {m = m} {ty = ty} {i = i} text) h ask a =
        let means = mem_means p scope here s.shown i m Reg ty text h in
        whole seen ask at (tree.name i false) ty (own_of (IsTree.a_reg {place = place} {at = at} {i = i} text) h) a.want a.number (word_quiet i _ (mem_name_quiet i _ m text means a.free) (means.seen_is seen s.same) refl)
    quiet (IsTree.an_arg {place = place} {at = at} {m = m} {ty = ty} {i = i} text) h ask a =
        let means = mem_means p scope here s.shown i m ArgIn ty text h in
        whole seen ask at (tree.name i false) ty (own_of (IsTree.an_arg {place = place} {at = at} {i = i} text) h) a.want a.number (word_quiet i _ (mem_name_quiet i _ m text means a.free) (means.seen_is seen s.same) refl)
    quiet (IsTree.an_element {place = place} {at = at} {m = m} {ty = ty} {i = i} {indices = indices} {all = all} text trees) h ask a =
        let means = mem_means p scope here s.shown i m Sram ty text h.0 in
        whole seen ask at (tree.access i all) ty (own_of (IsTree.an_element {place = place} {at = at} {i = i} text trees) h) a.want a.number
        (three_none _ _ _ (mem_name_quiet i _ m text means a.free.0)
        (ap (λ x. access_refusals i.place x (index_count all)) (means.seen_is seen s.same) ∙ rank_none i.place (length (mem_at p m).dims) (index_count all) (sym h.1 ∙ sym (counts_are trees)))
        (all_quiet trees h.2 (at_type (Some int_type) ask.still) refl (λ e. absurd (cc)) a.free.1 (λ e. (a.still e).1)))
    quiet (IsTree.a_row_element {place = place} {at = at} {m = m} {ty = ty} {i = i} {x = u} {y = v} text x y) h ask a =
        let means = mem_means p scope here s.shown i m LineBuf ty text h.0 in
        whole seen ask at (tree.access i (tree.more_expr u (tree.more_expr v tree.no_expr))) ty (own_of (IsTree.a_row_element {place = place} {at = at} {i = i} text x y) h) a.want a.number
        (three_none _ _ _ (mem_name_quiet i _ m text means a.free.0)
        (ap (λ x. access_refusals i.place x 2) (means.seen_is seen s.same))
        (two_none _ _ (quiet x h.1 (at_type (Some int_type) ask.still) (record { want = ap (λ t. Some t) (sym h.2); number = λ e. absurd (cc); free = a.free.1; still = λ e. (a.still e).1 }))
        (two_none _ [] (quiet y h.3 (at_type (Some int_type) ask.still) (record { want = ap (λ t. Some t) (sym h.4); number = λ e. absurd (cc); free = a.free.2; still = λ e. (a.still e).2 })) refl)))
    quiet (IsTree.a_deq {place = place} {at = at} {m = m} {ty = ty} {i = i} text) h ask a =
        let means = mem_means p scope here s.shown i m Fifo ty text h in
        let still = still_by ask.still m h.is_kind a.still in
        whole seen ask at (tree.deq i) ty (own_of (IsTree.a_deq {place = place} {at = at} {i = i} text) h) a.want a.number
        (two_none _ _ (mem_name_quiet i _ m text means a.free) (none_if (ask.still || not (may_be Fifo (symbol_of seen i.text))) _ (ap (λ b. b || not (may_be Fifo (symbol_of seen i.text))) still ∙ ap (λ x. not (may_be Fifo x)) (means.seen_is seen s.same))))
    quiet (IsTree.negated {place = place} {at = at} {ty = ty} {x = u} x) h ask a =
        whole seen ask at (tree.one Minus u) ty (own_of (IsTree.negated {place = place} {at = at} x) h) a.want a.number
        (quiet x h.0 (operand ask true) (record { want = a.want ∙ ap (λ t. Some t) (sym h.1.0); number = λ e. h.1.1; free = a.free; still = a.still }))
    quiet (IsTree.turned {place = place} {at = at} {t = t} {x = u} x) h ask a =
        whole seen ask at (tree.one Tilde u) (Fix t) (own_of (IsTree.turned {place = place} {at = at} x) h) a.want a.number
        (quiet x h.0 (operand ask true) (record { want = a.want ∙ ap (λ t. Some t) (sym h.1); number = λ e. subst IsNumber (sym h.1) (fix_number t); free = a.free; still = a.still }))
    quiet (IsTree.denied {place = place} {at = at} {x = u} x) h ask a =
        whole seen ask at (tree.one Bang u) Bit (own_of (IsTree.denied {place = place} {at = at} x) h) a.want a.number
        (quiet x h.0 (at_type (Some Bit) ask.still) (record { want = ap (λ t. Some t) (sym h.1); number = λ e. absurd (cc); free = a.free; still = a.still }))
    quiet (IsTree.operation {place = place} {at = at} {ty = ty} {op = o} {a = b} {b = c} {x = u} {y = v} call x y) h ask a =
        let from = asked_at o (type_of b) ty ask.want a.want (own_of x h.0) (subst (OwnIs (own seen v)) (sym h.2) (own_of y h.1)) h.3 in
        whole seen ask at (tree.two o u v) ty (own_of (IsTree.operation {place = place} {at = at} call x y) h) a.want a.number
        (two_none _ _
        (quiet x h.0 (binary_ask seen o ask u v) (record { want = from; number = λ e. takes_number o (type_of b) ty e h.3; free = a.free.0; still = λ e. (a.still e).0 }))
        (quiet y h.1 (binary_ask seen o ask u v) (record { want = from ∙ ap (λ t. Some t) h.2; number = λ e. subst IsNumber h.2 (takes_number o (type_of b) ty e h.3); free = a.free.1; still = λ e. (a.still e).1 })))
    quiet (IsTree.least {place = place} {at = at} {ty = ty} {x = u} {y = v} x y) h ask a =
        whole seen ask at (tree.min u v) ty (own_of (IsTree.least {place = place} {at = at} x y) h) a.want a.number
        (two_none _ _
        (quiet x h.0 (operand ask true) (record { want = a.want ∙ ap (λ t. Some t) (sym h.3.0); number = λ e. h.3.1; free = a.free.0; still = λ e. (a.still e).0 }))
        (quiet y h.1 (operand ask true) (record { want = a.want ∙ ap (λ t. Some t) (sym h.3.0 ∙ h.2); number = λ e. subst IsNumber h.2 h.3.1; free = a.free.1; still = λ e. (a.still e).1 })))
    quiet (IsTree.greatest {place = place} {at = at} {ty = ty} {x = u} {y = v} x y) h ask a =
        whole seen ask at (tree.max u v) ty (own_of (IsTree.greatest {place = place} {at = at} x y) h) a.want a.number
        (two_none _ _
        (quiet x h.0 (operand ask true) (record { want = a.want ∙ ap (λ t. Some t) (sym h.3.0); number = λ e. h.3.1; free = a.free.0; still = λ e. (a.still e).0 }))
        (quiet y h.1 (operand ask true) (record { want = a.want ∙ ap (λ t. Some t) (sym h.3.0 ∙ h.2); number = λ e. subst IsNumber h.2 h.3.1; free = a.free.1; still = λ e. (a.still e).1 })))
    quiet (IsTree.shifted {place = place} {at = at} {by = by} {ty = ty} {left = left} {x = u} x) h ask a =
        whole seen ask at (tree.shift left u by) ty (own_of (IsTree.shifted {place = place} {at = at} {by = by} {left = left} x) h) a.want a.number
        (quiet x h.0 (operand ask true) (record { want = a.want ∙ ap (λ t. Some t) (sym h.1); number = λ e. subst IsNumber (sym h.1) h.2; free = a.free; still = a.still }))
    quiet (IsTree.a_choice {place = place} {at = at} {ty = ty} {z = l} {x = u} {y = v} z x y) h ask a =
        whole seen ask at (tree.mux l u v) ty (own_of (IsTree.a_choice {place = place} {at = at} z x y) h) a.want a.number
        (three_none _ _ _
        (quiet z h.0 (at_type (Some Bit) ask.still) (record { want = ap (λ t. Some t) (sym h.1); number = λ e. absurd (cc); free = a.free.0; still = λ e. (a.still e).0 }))
        (quiet x h.2 (operand ask false) (record { want = a.want ∙ ap (λ t. Some t) (sym h.3); number = λ e. absurd (cc); free = a.free.1; still = λ e. (a.still e).1 }))
        (quiet y h.4 (operand ask false) (record { want = a.want ∙ ap (λ t. Some t) (sym h.5); number = λ e. absurd (cc); free = a.free.2; still = λ e. (a.still e).2 })))
    quiet (IsTree.a_cast {place = place} {at = at} {ty = ty} {a = b} {x = u} {target = target} kept x is) h ask a =
        let from = (is_no_number x kept).cast_is seen target ∙ by_itself (own_of x h) in
        whole seen ask at (tree.cast u target) ty (own_of (IsTree.a_cast {place = place} {at = at} kept x is) h) a.want a.number
        (two_none _ _ (quiet x h (at_type (cast_from seen u target) ask.still) (record { want = from; number = λ e. absurd (cc); free = a.free; still = a.still })) (type_none is))
    quiet (IsTree.a_cast_number {place = place} {place2 = place2} {at = at} {at2 = at2} {at3 = at3} {at4 = at4} {w = w} {ty = ty} {t = t} {d = d} {target = target} e l is) h ask a =
        let inner = tree.expr at2 (tree.cast (tree.expr at3 (tree.number d)) (written.Int at4)) in
        let int : IsTypeTree (Fix t) (written.Int at4) = IsTypeTree.int e in
        let own_int : OwnIs (own seen inner) (Fix t) = subst (λ o. OwnIs o (Fix t)) (sym (ap Rattle.sp_types.specs.Types.own_type (type_is int))) OwnIs.known in
        whole seen ask at (tree.cast inner target) ty (own_of (IsTree.a_cast_number {place = place} {place2 = place2} {at = at} {at2 = at2} {at3 = at3} {at4 = at4} e l is) h) a.want a.number
        (two_none _ _
        (whole seen (at_type (cast_from seen inner target) ask.still) at2 (tree.cast (tree.expr at3 (tree.number d)) (written.Int at4)) (Fix t) own_int (by_itself own_int) (λ e. absurd (cc))
        (two_none _ _ (number_quiet seen (at_type (written_type (written.Int at4)) ask.still) at3 d (Fix t) w (type_is int) (literal_is t w d h l)) (type_none int)))
        (type_none is))

    pub all_quiet : {indices : PlainExprs} {all : tree.PlainExprs} → AreTrees (names_in p) indices all → IndicesTyped p scope indices → (ask : Ask) → ask.want ≡ Some int_type → (ask.number ≡ true → ⊥) → AllName (is_free p seen) indices → (ask.still ≡ true → AllName (is_still p) indices) → exprs_refusals seen ask all ≡ []
    all_quiet AreTrees.no_trees h ask want number free still = refl
    all_quiet (AreTrees.more_trees x rest) h ask want number free still =
        two_none _ _ (quiet x h.0 ask (record { want = want ∙ ap (λ t. Some t) (sym h.1); number = λ e. absurd (number e); free = free.0; still = λ e. (still e).0 }))
        (all_quiet rest h.2 ask want number free.1 (λ e. (still e).1))
