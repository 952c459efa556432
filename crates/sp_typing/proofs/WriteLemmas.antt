-- Writes without refusals.
use Rattle.std.proofs.Common.{◌≡◌, ℕ, suc, ◌≤◌, Bool, true, false, List, [], ◌∷◌, ◌++◌, length, Option, Some, None, IsTrue, refl, sym, ap, subst, ◌∙◌, true≢false, arith}
use Rattle.std.specs.Prelude.{All, nat_lt, slice_index_or}
use Rattle.std.proofs.lemmas.Bool.{eqb-true, ltb-true, ltb-false}
use Rattle.std.proofs.lemmas.List.{get_or_past}
use Rattle.std.proofs.lemmas.List.Elements.{All-head, All-tail}
use native.Mathlib.Numerals.{unary_clauses}
use Rattle.sp_words.specs.declared.kind.Kind.{Kind}
use Rattle.sp_words.specs.declared.kind.Kind.TheVariants.{Reg, Sram, Fifo, LineBuf, Dram, ArgIn, ArgOut}
use Rattle.sp_words.specs.Types.{int_type}
use Rattle.sp_reader.specs.PlainTree.{PlainIdent, PlainExpr, PlainExprKind, PlainExprs, expr, no_expr, more_expr, row}
use Rattle.sp_reader.specs.PlainStatement.{set, set_at, enq}
use Rattle.sp_tree.specs.Declarations.{IsDeclaration, HasRank}
use Rattle.sp_tree.specs.Footprint.{Names, StmtKindNames}
use Rattle.sp_tree.specs.PlainExpression as program
use Rattle.sp_tree.specs.PlainStatement as program_kind
use Rattle.sp_tree.specs.PlainProgram.{PlainProgram, PlainMem, no_mem}
use Rattle.sp_tree.specs.Typing.{Scope, mem_at, Typed, IndicesTyped, StmtTyped, all_but, after}
use Rattle.sp_types.specs.declared.own.Ask.{Ask}
use Rattle.sp_types.specs.Expressions as rule
use Rattle.sp_types.specs.Statements.{kind_use, word, bare_write, indexed_write, set_refusals, set_at_refusals}
use Rattle.sp_types.specs.Types.{symbol_type}
use Rattle.sp_types.specs.Visible.{PlainSymbol, memory, value, counter, Visible, symbol_of, is_busy}
use Rattle.sp_typed.proofs.ExpressionLemmas.{expr_right, type_is, count_is}
use Rattle.sp_typed.proofs.NoneLemmas.{both_none, four_none, not_noted, was_true}
use Rattle.sp_typed.specs.Expressions.{known, number_if, symbol_if, number_of, symbol_at, word_type, typed, all_typed}
use Rattle.sp_typed.specs.Laws.{Stands}
use Rattle.sp_typed.specs.Named.{Meant, Here}
use Rattle.sp_typed.specs.ReadTree.{IsReadExpr, AreReadExprs}
use Rattle.sp_typed.specs.Statements.{write, is_output}
use Rattle.sp_typing.specs.Places.{NamedBy, Place, KindRight, StmtRight}
use Rattle.sp_typing.proofs.AloneLemmas.{expr_alone, all_alone}
use Rattle.sp_typing.proofs.UsedLemmas.{Meaning, Kept, meaning, word_known, kept, kept_meaning, kept_alone, kept_known, word_is_kept, other_than}

pub counted : (want got : ℕ) (place : ℕ) → rule.count_refusals place want got ≡ [] → want ≡ got
counted want got place e = eqb-true want got (was_true _ (not_noted _ _ e))

-- ---- an SRAM has a dimension

is_inside : (p : PlainProgram) (n : ℕ) (b : Bool) → nat_lt n (length p.mems) ≡ b → All IsDeclaration p.mems → (mem_at p n).kind ≡ Sram → 1 ≤ length (mem_at p n).dims
is_inside p n true e all k =
    let r = (all n no_mem (ltb-true n (length p.mems) e)).rank in
    let P : Kind → Type 0 = λ x. HasRank x (length (mem_at p n).dims) in
    let s : HasRank Sram (length (mem_at p n).dims) = subst P k r in
    s.0
is_inside p n false e all k =
    let f : slice_index_or p.mems n no_mem ≡ no_mem = get_or_past p.mems n no_mem (ltb-false n (length p.mems) e) in
    let g : Reg ≡ Sram = sym (ap (λ (m : PlainMem). m.kind) f) ∙ k in
    absurd (cc)

pub has_dims : (p : PlainProgram) (n : ℕ) → All IsDeclaration p.mems → (mem_at p n).kind ≡ Sram → 1 ≤ length (mem_at p n).dims
has_dims p n all k = is_inside p n (nat_lt n (length p.mems)) refl all k

record Indexed (p : PlainProgram) (scope : Scope) (here : Here) (seen : Visible) (i : PlainIdent) (got : ℕ) : Type 0 where
  sram : Kept p scope here seen i Sram
  many : length sram.dims ≡ got

-- ---- what a write is, by its kind

write_after : (scope : Scope) (b : Bool) (n : ℕ) (e : program.PlainExpr) → after scope (write b n e) ≡ scope
write_after scope true n e = refl
write_after scope false n e = refl

write_names : (is : ℕ → Bool) (b : Bool) (n : ℕ) (e : program.PlainExpr) → IsTrue (is n) → Names is e → StmtKindNames is (write b n e)
write_names is true n e h k = (h, k)
write_names is false n e h k = (h, k)

module _ (p : PlainProgram) (all : All IsDeclaration p.mems) (scope : Scope) where
  -- a bare write is one of a register or of an output
  set_typed : (s : PlainSymbol) (n place : ℕ) (e : program.PlainExpr) → Stands p scope s n → bare_write place (Some s) ≡ [] → Typed p scope e
      → program.type_of e ≡ known (symbol_type (Some s)) → StmtTyped p scope (write (is_output (Some s)) n e)
  set_typed (memory Reg (Some ty) dims) n place e h none right is = (record { seen = h.0.seen; is_kind = h.0.is_kind; is_type = h.0.is_type ∙ sym is }, right)
  set_typed (memory ArgOut (Some ty) dims) n place e h none right is = (record { seen = h.0.seen; is_kind = h.0.is_kind; is_type = h.0.is_type ∙ sym is }, right)
  set_typed (memory Sram (Some ty) dims) n place e h none right is =
      let some : 1 ≤ length dims = subst (λ d. 1 ≤ length d) h.1 (has_dims p n all h.0.is_kind) in
      let none_there = counted (length dims) 0 place none in
      absurd (omega arith)
  set_typed (memory _ (Some ty) dims) n place e h none right is = absurd (true≢false (not_noted _ _ none))
  set_typed (memory kind None dims) n place e h none right is = absurd h
  set_typed (value ty) n place e h none right is = absurd (true≢false (not_noted _ _ none))
  set_typed counter n place e h none right is = absurd (true≢false (not_noted _ _ none))

  set_named : (s : PlainSymbol) (n place : ℕ) (text : List ℕ) → NamedBy p s n text → bare_write place (Some s) ≡ [] → (mem_at p n).name ≡ text
  set_named (memory kind ty dims) n place text h none = h
  set_named (value ty) n place text h none = absurd (true≢false (not_noted _ _ none))
  set_named counter n place text h none = absurd (true≢false (not_noted _ _ none))

  module _ (here : Here) (seen : Visible) (at : Place p scope here.names seen.names) where
    pub set_right : (i : PlainIdent) (place : ℕ) (k : PlainExprKind) → IsReadExpr (expr place k)
        → set_refusals seen i ++ rule.expr_refusals seen (word (symbol_type (symbol_of seen i.text))) (expr place k) ≡ [] → StmtRight p scope here seen (set i (expr place k))
    set_right i place k read none =
        let e = expr place k in
        let f = both_none (set_refusals seen i) _ none in
        let g = both_none (rule.name_refusals seen i) _ f.0 in
        let m = meaning p scope here seen at i g.0 in
        let known_as = word_known p scope here seen at i m in
        let ask = word (symbol_type (symbol_of seen i.text)) in
        let word_is = typed here (word_type here i) e in
        let right = expr_right p scope here seen at.agree at.same ask (word_type here i) e known_as read f.1 in
        let bare : bare_write i.place (Some m.symbol) ≡ [] = ap (bare_write i.place) (sym m.seen_as) ∙ g.1 in
        let is : word_type here i ≡ known (symbol_type (Some m.symbol)) = ap (λ o. known (symbol_type (symbol_if o))) m.is in
        let named : (mem_at p (number_of here i)).name ≡ i.text = ap (λ o. (mem_at p (number_if o)).name) m.is ∙ set_named m.symbol m.number i.place i.text m.named bare in
        let P : Option Meant → Type 0 = λ o. StmtTyped p scope (write (is_output (symbol_if o)) (number_if o) word_is) in
        let Q : Scope → Type 0 = λ sc. Place p sc here.names seen.names in
        record {
          typed = subst P (sym m.is) (set_typed m.symbol m.number i.place word_is m.stands bare right is);
          alone = λ acc around. write_names (all_but p acc) (is_output (symbol_at here i)) (number_of here i) word_is
              (other_than p seen acc (number_of here i) around (ap (is_busy seen) named ∙ m.free))
              (expr_alone p scope here seen at acc around ask (word_type here i) e read f.1);
          next = subst Q (sym (write_after scope (is_output (symbol_at here i)) (number_of here i) word_is)) at;
        }

    -- ---- words of a FIFO

    pub enq_right : (i : PlainIdent) (place : ℕ) (k : PlainExprKind) → IsReadExpr (expr place k)
        → kind_use seen Fifo i ++ rule.expr_refusals seen (word (symbol_type (symbol_of seen i.text))) (expr place k) ≡ [] → StmtRight p scope here seen (enq i (expr place k))
    enq_right i place k read none =
        let e = expr place k in
        let f = both_none (kind_use seen Fifo i) _ none in
        let fifo = kept p scope here seen at i Fifo f.0 in
        let ask = word (symbol_type (symbol_of seen i.text)) in
        record {
          typed = (word_is_kept p scope here seen i Fifo fifo, expr_right p scope here seen at.agree at.same ask (word_type here i) e (kept_known p scope here seen i Fifo fifo) read f.1);
          alone = λ acc around. (kept_alone p scope here seen i Fifo acc fifo around, expr_alone p scope here seen at acc around ask (word_type here i) e read f.1);
          next = at;
        }

    -- ---- elements of an SRAM

    may_be_sram : (s : PlainSymbol) (place got : ℕ) → 1 ≤ got → indexed_write place (Some s) got ≡ [] → rule.may_be Sram (Some s) ≡ true
    may_be_sram (memory Sram ty dims) place got some none = refl
    may_be_sram (memory Reg ty dims) place got some none = absurd (let f = counted 0 got place none in omega arith)
    may_be_sram (memory Fifo ty dims) place got some none = absurd (let f = counted 0 got place none in omega arith)
    may_be_sram (memory ArgOut ty dims) place got some none = absurd (let f = counted 0 got place none in omega arith)
    may_be_sram (memory LineBuf ty dims) place got some none = absurd (cc)
    may_be_sram (memory Dram ty dims) place got some none = absurd (cc)
    may_be_sram (memory ArgIn ty dims) place got some none = absurd (cc)
    may_be_sram (value ty) place got some none = absurd (cc)
    may_be_sram counter place got some none = absurd (cc)

    write_as : (place got : ℕ) (o : Option PlainSymbol) (s : PlainSymbol) → o ≡ Some s → indexed_write place o got ≡ [] → indexed_write place (Some s) got ≡ []
    write_as place got o s e none = ap (λ x. indexed_write place x got) (sym e) ∙ none

    may_as : (kind : Kind) (o : Option PlainSymbol) (s : PlainSymbol) → o ≡ Some s → rule.may_be kind (Some s) ≡ true → rule.may_be kind o ≡ true
    may_as kind o s e may = ap (rule.may_be kind) e ∙ may

    row_count : (es : List PlainExpr) → rule.index_count (row es) ≡ length es
    row_count [] = refl
    row_count (e ∷ es) = simp unary_clauses (ap suc (row_count es))

    row_read : (es : List PlainExpr) → All IsReadExpr es → AreReadExprs (row es)
    row_read [] h = tt
    row_read (e ∷ es) h = (All-head IsReadExpr e es h, row_read es (All-tail IsReadExpr e es h))

    indices_right : (ask : Ask) (es : PlainExprs) → ask.want ≡ Some int_type → AreReadExprs es → rule.exprs_refusals seen ask es ≡ [] → IndicesTyped p scope (all_typed here int_type es)
    indices_right ask no_expr want read none = tt
    indices_right ask (more_expr e rest) want read none =
        let f = both_none (rule.expr_refusals seen ask e) (rule.exprs_refusals seen ask rest) none in
        (expr_right p scope here seen at.agree at.same ask int_type e want read.0 f.0, type_is here int_type e, indices_right ask rest want read.1 f.1)

    -- what is written at indices is an SRAM, with one index for each dimension
    indexed : (i : PlainIdent) (got : ℕ) → Meaning p scope here seen i → 1 ≤ got → indexed_write i.place (symbol_of seen i.text) got ≡ [] → Indexed p scope here seen i got
    indexed i got m some none =
        let may = may_be_sram m.symbol i.place got some (write_as i.place got (symbol_of seen i.text) m.symbol m.seen_as none) in
        let sram = kept_meaning p scope here seen at i Sram m (may_as Sram (symbol_of seen i.text) m.symbol m.seen_as may) in
        record {
          sram = sram;
          many = counted (length sram.dims) got i.place (write_as i.place got (symbol_of seen i.text) (memory Sram (Some sram.ty) sram.dims) sram.seen_as none);
        }

    set_at_from : (i : PlainIdent) (indices : PlainExprs) (place : ℕ) (k : PlainExprKind) → Indexed p scope here seen i (rule.index_count indices) → AreReadExprs indices → IsReadExpr (expr place k)
        → rule.exprs_refusals seen (word (Some int_type)) indices ≡ [] → rule.expr_refusals seen (word (symbol_type (symbol_of seen i.text))) (expr place k) ≡ []
        → KindRight p scope seen (program_kind.set_sram (number_of here i) (all_typed here int_type indices) (typed here (word_type here i) (expr place k)))
    set_at_from i indices place k x read_indices read none_of none =
        let e = expr place k in
        let ask = word (symbol_type (symbol_of seen i.text)) in
        let sram = x.sram in
        record {
          typed = (
            word_is_kept p scope here seen i Sram sram,
            count_is here indices ∙ sym x.many ∙ ap length (sym sram.dims_are),
            indices_right (word (Some int_type)) indices refl read_indices none_of,
            expr_right p scope here seen at.agree at.same ask (word_type here i) e (kept_known p scope here seen i Sram sram) read none,
          );
          alone = λ acc around. (
            kept_alone p scope here seen i Sram acc sram around,
            all_alone p scope here seen at acc around (word (Some int_type)) int_type indices read_indices none_of,
            expr_alone p scope here seen at acc around ask (word_type here i) e read none,
          );
        }

    pub set_at_right : (i : PlainIdent) (indices : List PlainExpr) (place : ℕ) (k : PlainExprKind) → 1 ≤ length indices → All IsReadExpr indices → IsReadExpr (expr place k)
        → set_at_refusals seen i (row indices) (expr place k) ≡ [] → StmtRight p scope here seen (set_at i indices (expr place k))
    set_at_right i indices place k some read_indices read none =
        let e = expr place k in
        let named = indexed_write i.place (symbol_of seen i.text) (rule.index_count (row indices)) in
        let of_indices = rule.exprs_refusals seen (word (Some int_type)) (row indices) in
        let f = four_none (rule.name_refusals seen i) named of_indices (rule.expr_refusals seen (word (symbol_type (symbol_of seen i.text))) e) none in
        let there : 1 ≤ rule.index_count (row indices) = subst (λ n. 1 ≤ n) (sym (row_count indices)) some in
        let x = indexed i (rule.index_count (row indices)) (meaning p scope here seen at i f.0) there f.1 in
        let r = set_at_from i (row indices) place k x (row_read indices read_indices) read f.2 f.3 in
        record { typed = r.typed; alone = r.alone; next = at }
