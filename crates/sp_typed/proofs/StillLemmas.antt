-- An expression that is checked still takes no word from a FIFO.
use Rattle.std.proofs.Common.{◌≡◌, ℕ, Bool, true, false, cond, not, ◌||◌, List, [], ◌++◌, Option, Some, None, IsTrue, refl, sym, ap, ◌∙◌, true≢false}
use Rattle.sp_words.specs.declared.kind.Kind.{Kind}
use Rattle.sp_words.specs.declared.kind.Kind.TheVariants.{Reg, Sram, Fifo, LineBuf, Dram, ArgIn, ArgOut}
use Rattle.sp_words.specs.declared.types.Ty.{Ty}
use Rattle.sp_words.specs.declared.types.Ty.TheVariants.{Bit}
use Rattle.sp_words.specs.Types.{int_type}
use Rattle.sp_reader.specs.declared.syntax.expression.SynUn.TheVariants.{Minus, Bang, Tilde}
use Rattle.sp_reader.specs.PlainTree.{PlainDigits, PlainExpr, PlainExprKind, PlainExprs, expr, number, truth, name, deq, access, mux, min, max, one, two, shift, cast, no_expr, more_expr}
use Rattle.sp_tree.specs.Footprint.{Names, KindNames, AllName}
use Rattle.sp_tree.specs.PlainExpression as program
use Rattle.sp_tree.specs.PlainProgram.{PlainProgram}
use Rattle.sp_tree.specs.Streams.{is_fifo}
use Rattle.sp_tree.specs.Typing.{Scope, IsMem, mem_at, Typed, KindTyped, IndicesTyped, HasTypeStill}
use Rattle.sp_types.specs.declared.own.Ask.{Ask}
use Rattle.sp_types.specs.Expressions as rule
use Rattle.sp_types.specs.Visible.{PlainSymbol, memory, value, counter, Visible}
use Rattle.sp_typed.specs.Expressions.{named_word, digits_of, cast_if, line_element, element, is_line, number_of, symbol_at, operand_type, type_by_itself, typed, kind_typed, all_typed}
use Rattle.sp_typed.specs.Laws.{Agree}
use Rattle.sp_typed.specs.Named.{Here, seen_at}
use Rattle.sp_typed.specs.ReadTree.{IsReadExpr}
use Rattle.sp_typed.proofs.ExpressionLemmas.{expr_right, type_is}
use Rattle.sp_typed.proofs.NoneLemmas.{both_none, three_none, not_noted}

-- no word is taken anywhere in an expression
abbrev mutual
  pub NoTake : program.PlainExpr → Type 0
  NoTake (program.expr place ty kind) = KindNoTake kind

  pub KindNoTake : program.PlainExprKind → Type 0
  KindNoTake (program.literal w) = Unit {0}
  KindNoTake (program.counter c) = Unit {0}
  KindNoTake (program.value v) = Unit {0}
  KindNoTake (program.get_reg m) = Unit {0}
  KindNoTake (program.get_arg m) = Unit {0}
  KindNoTake (program.get_sram m indices) = AllNoTake indices
  KindNoTake (program.get_line m row column) = NoTake row × NoTake column
  KindNoTake (program.deq m) = ⊥
  KindNoTake (program.one op a) = NoTake a
  KindNoTake (program.two op a b) = NoTake a × NoTake b
  KindNoTake (program.shift left a by) = NoTake a
  KindNoTake (program.mux c a b) = NoTake c × NoTake a × NoTake b
  KindNoTake (program.cast a) = NoTake a

  pub AllNoTake : program.PlainExprs → Type 0
  AllNoTake program.no_expr = Unit {0}
  AllNoTake (program.more_expr e rest) = NoTake e × AllNoTake rest

-- ---- by the rules

word_takes_none : (n : ℕ) (o : Option PlainSymbol) → KindNoTake (named_word n o)
word_takes_none n (Some (memory Reg ty dims)) = tt
word_takes_none n (Some (memory ArgIn ty dims)) = tt
word_takes_none n (Some (memory _ ty dims)) = tt
word_takes_none n (Some (value ty)) = tt
word_takes_none n (Some counter) = tt
word_takes_none n None = tt

line_takes_none : (n : ℕ) (es : program.PlainExprs) → AllNoTake es → KindNoTake (line_element n es)
line_takes_none n program.no_expr h = tt
line_takes_none n (program.more_expr a program.no_expr) h = tt
line_takes_none n (program.more_expr a (program.more_expr b program.no_expr)) h = (h.0, h.1.0)
line_takes_none n (program.more_expr a (program.more_expr b (program.more_expr c rest))) h = tt

element_takes_none : (line : Bool) (n : ℕ) (es : program.PlainExprs) → AllNoTake es → KindNoTake (element line n es)
element_takes_none true n es h = line_takes_none n es h
element_takes_none false n es h = h

cast_takes_none : (o : Option PlainDigits) (ty : Ty) (e : program.PlainExpr) → NoTake e → KindNoTake (cast_if o ty e)
cast_takes_none (Some d) ty e h = tt
cast_takes_none None ty e h = h

still_or : (a b : Bool) → a ≡ true → (a || b) ≡ false → ⊥
still_or true b e h = true≢false h
still_or false b e h = true≢false (sym e)

module _ (here : Here) (seen : Visible) where
  mutual
    pub takes_none : (ask : Ask) (ty : Ty) (e : PlainExpr) → ask.still ≡ true → rule.expr_refusals seen ask e ≡ [] → NoTake (typed here ty e)
    takes_none ask ty (expr place kind) still none = kind_takes_none ask ty place kind still (both_none _ (rule.kind_refusals seen ask place kind) none).1

    kind_takes_none : (ask : Ask) (ty : Ty) (place : ℕ) (kind : PlainExprKind) → ask.still ≡ true → rule.kind_refusals seen ask place kind ≡ [] → KindNoTake (kind_typed here ty kind)
    kind_takes_none ask ty place (number d) still none = tt
    kind_takes_none ask ty place (truth b) still none = tt
    kind_takes_none ask ty place (name i v) still none = word_takes_none (number_of here i) (symbol_at here i)
    kind_takes_none ask ty place (deq i) still none = still_or ask.still _ still (not_noted _ _ (both_none (rule.name_refusals seen i) _ none).1)
    kind_takes_none ask ty place (access i indices) still none =
        element_takes_none (is_line (symbol_at here i)) (number_of here i) _ (all_take_none (rule.at_type (Some int_type) ask.still) int_type indices still (both_none _ (rule.exprs_refusals seen (rule.at_type (Some int_type) ask.still) indices) none).1)
    kind_takes_none ask ty place (mux c a b) still none =
        let f = three_none (rule.expr_refusals seen (rule.at_type (Some Bit) ask.still) c) (rule.expr_refusals seen (rule.operand ask false) a) (rule.expr_refusals seen (rule.operand ask false) b) none in
        (takes_none (rule.at_type (Some Bit) ask.still) Bit c still f.0, takes_none (rule.operand ask false) ty a still f.1, takes_none (rule.operand ask false) ty b still f.2)
    kind_takes_none ask ty place (min a b) still none =
        let f = both_none (rule.expr_refusals seen (rule.operand ask true) a) (rule.expr_refusals seen (rule.operand ask true) b) none in
        (takes_none (rule.operand ask true) ty a still f.0, takes_none (rule.operand ask true) ty b still f.1)
    kind_takes_none ask ty place (max a b) still none =
        let f = both_none (rule.expr_refusals seen (rule.operand ask true) a) (rule.expr_refusals seen (rule.operand ask true) b) none in
        (takes_none (rule.operand ask true) ty a still f.0, takes_none (rule.operand ask true) ty b still f.1)
    kind_takes_none ask ty place (one Minus a) still none = takes_none (rule.operand ask true) ty a still none
    kind_takes_none ask ty place (one Bang a) still none = takes_none (rule.at_type (Some Bit) ask.still) Bit a still none
    kind_takes_none ask ty place (one Tilde a) still none = takes_none (rule.operand ask true) ty a still none
    kind_takes_none ask ty place (two op a b) still none =
        let f = both_none (rule.expr_refusals seen (rule.binary_ask seen op ask a b) a) (rule.expr_refusals seen (rule.binary_ask seen op ask a b) b) none in
        (takes_none (rule.binary_ask seen op ask a b) (operand_type here op ty a b) a still f.0, takes_none (rule.binary_ask seen op ask a b) (operand_type here op ty a b) b still f.1)
    kind_takes_none ask ty place (shift left a by) still none = takes_none (rule.operand ask true) ty a still none
    kind_takes_none ask ty place (cast a target) still none =
        cast_takes_none (digits_of a) ty _ (takes_none (rule.at_type (rule.cast_from seen a target) ask.still) (type_by_itself here a) a still (both_none _ (rule.type_refusals target) none).0)

    all_take_none : (ask : Ask) (ty : Ty) (es : PlainExprs) → ask.still ≡ true → rule.exprs_refusals seen ask es ≡ [] → AllNoTake (all_typed here ty es)
    all_take_none ask ty no_expr still none = tt
    all_take_none ask ty (more_expr e rest) still none =
        let f = both_none (rule.expr_refusals seen ask e) (rule.exprs_refusals seen ask rest) none in
        (takes_none ask ty e still f.0, all_take_none ask ty rest still f.1)

-- ---- so no FIFO is named

module _ (p : PlainProgram) (scope : Scope) where
  abbrev pub no_fifo : ℕ → Bool
  no_fifo m = not (is_fifo (mem_at p m).kind)

  other : (m : ℕ) (kind : Kind) (ty : Ty) → IsMem p scope m kind ty → is_fifo kind ≡ false → IsTrue (no_fifo m)
  other m kind ty h e = ap (λ k. not (is_fifo k)) h.is_kind ∙ ap not e

  mutual
    pub names_none : (e : program.PlainExpr) → Typed p scope e → NoTake e → Names no_fifo e
    names_none (program.expr place ty kind) h n = kind_names_none kind ty h n

    kind_names_none : (kind : program.PlainExprKind) (ty : Ty) → KindTyped p scope kind ty → KindNoTake kind → KindNames no_fifo kind
    kind_names_none (program.literal w) ty h n = tt
    kind_names_none (program.counter c) ty h n = tt
    kind_names_none (program.value v) ty h n = tt
    kind_names_none (program.get_reg m) ty h n = other m Reg ty h refl
    kind_names_none (program.get_arg m) ty h n = other m ArgIn ty h refl
    kind_names_none (program.get_sram m indices) ty h n = (other m Sram ty h.0 refl, all_names_none indices h.2 n)
    kind_names_none (program.get_line m row column) ty h n = (other m LineBuf ty h.0 refl, names_none row h.1 n.0, names_none column h.3 n.1)
    kind_names_none (program.deq m) ty h n = absurd n
    kind_names_none (program.one op a) ty h n = names_none a h.0 n
    kind_names_none (program.two op a b) ty h n = (names_none a h.0 n.0, names_none b h.1 n.1)
    kind_names_none (program.shift left a by) ty h n = names_none a h.0 n
    kind_names_none (program.mux c a b) ty h n = (names_none c h.0 n.0, names_none a h.2 n.1, names_none b h.4 n.2)
    kind_names_none (program.cast a) ty h n = names_none a h n

    all_names_none : (es : program.PlainExprs) → IndicesTyped p scope es → AllNoTake es → AllName no_fifo es
    all_names_none program.no_expr h n = tt
    all_names_none (program.more_expr e rest) h n = (names_none e h.0 n.0, all_names_none rest h.2 n.1)

-- an expression that is checked still is typed so
pub still_right : (p : PlainProgram) (scope : Scope) (here : Here) (seen : Visible) → Agree p scope here.names → seen.names ≡ (seen_at here).names
    → (ask : Ask) (ty : Ty) (e : PlainExpr) → ask.want ≡ Some ty → ask.still ≡ true → IsReadExpr e → rule.expr_refusals seen ask e ≡ [] → HasTypeStill p scope ty (typed here ty e)
still_right p scope here seen agree same ask ty e want still read none =
    let right = expr_right p scope here seen agree same ask ty e want read none in
    ((right, type_is here ty e), names_none p scope (typed here ty e) right (takes_none here seen ask ty e still none))
