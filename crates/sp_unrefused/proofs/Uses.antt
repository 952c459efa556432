-- Uses of memories, spans and counters without refusals.
use Rattle.std.proofs.Common.{◌≡◌, ℕ, suc, ◌+◌, ◌==◌, ◌&&◌, not, nat_lt, eq-eqb, Bool, true, false, List, [], ◌∷◌, length, Contains, Option, Some, refl, sym, ap, ◌∙◌, inl, inr, arith}
use Rattle.std.specs.Prelude.{◌⊎◌}
use Rattle.std.specs.Prelude.{fold, cond}
use Rattle.sp_words.specs.declared.kind.Kind.{Kind}
use Rattle.sp_words.specs.declared.kind.Kind.TheVariants.{Reg, Sram, Fifo, LineBuf, Dram, ArgIn, ArgOut}
use Rattle.sp_words.specs.declared.types.Ty.{Ty}
use Rattle.sp_words.specs.Types.{int_type}
use Rattle.sp_reader.specs.declared.syntax.statement.SynPar.{SynPar}
use Rattle.sp_reader.specs.PlainTree as tree
use Rattle.sp_reader.specs.PlainStatement as tree_of
use Rattle.sp_tree.specs.Footprint.{SpansName, CountersName}
use Rattle.sp_tree.specs.PlainExpression.{PlainExpr}
use Rattle.sp_tree.specs.PlainProgram.{PlainProgram}
use Rattle.sp_tree.specs.PlainStatement as program
use Rattle.sp_tree.specs.Typing.{Scope, IsMem, mem_at, all_but, SpansTyped, BoundsTyped, LanesAtEnd, LanesAtLastRange, range_count}
use Rattle.sp_printer.specs.Names.{names_in}
use Rattle.sp_printed.specs.LoopTrees.{IsParTree, IsSpanTree, AreSpanTrees, IsFromTree, AreCounterTrees}
use Rattle.sp_types.specs.Expressions.{name_refusals, is_kind, may_be, count_refusals}
use Rattle.sp_types.specs.Spans.{from_refusals, counter_par, counters_refusals, is_empty, spans_refusals, range_par, has_range, is_range}
use Rattle.sp_types.specs.Spans as rule
use Rattle.sp_types.specs.Statements.{kind_use, types_differ}
use Rattle.sp_types.specs.Types.{is_type}
use Rattle.sp_types.specs.Visible.{memory, Visible, symbol_of, is_busy}
use Rattle.sp_typed.specs.Named.{Here}
use Rattle.sp_retyped.proofs.Names.{mem_means, none_if, two_none, three_none, name_right}
use Rattle.sp_retyped.proofs.Values.{same_type}
use Rattle.sp_unrefused.specs.Placed.{Placed}
use Rattle.sp_unrefused.proofs.Free.{Spared, Spares, mem_free, right_at}

pub count_none : (place want got : ℕ) → want ≡ got → count_refusals place want got ≡ []
count_none place want got e = none_if (not (want == got)) _ (ap not (eq-eqb want got e))

pub types_none : (a b : Option Ty) (ty : Ty) (at : ℕ) → a ≡ Some ty → b ≡ Some ty → types_differ a b at ≡ []
types_none a b ty at x y = ap (λ o. types_differ o b at) x ∙ ap (λ o. types_differ (Some ty) o at) y ∙ none_if (not (is_type ty ty)) _ (ap not (same_type ty))

same_kind : (k : Kind) → is_kind k k ≡ true
same_kind Reg = refl
same_kind Sram = refl
same_kind Fifo = refl
same_kind LineBuf = refl
same_kind Dram = refl
same_kind ArgIn = refl
same_kind ArgOut = refl

not_free : (b : Bool) → not b ≡ true → b ≡ false
not_free true e = absurd (cc)
not_free false e = refl

module _ (p : PlainProgram) (scope : Scope) (here : Here) (seen : Visible) (accs : List ℕ) (h : Placed p scope here seen accs) where
  -- a memory that is used by its name
  pub record Used (i : tree.PlainIdent) (m : ℕ) (kind : Kind) (ty : Ty) : Type 0 where
    pub symbol : symbol_of seen i.text ≡ Some (memory kind (Some ty) (mem_at p m).dims)
    pub name : name_refusals seen i ≡ []
    pub use_right : kind_use seen kind i ≡ []

  pub used : (i : tree.PlainIdent) (m : ℕ) (kind : Kind) (ty : Ty) → i.text ≡ (mem_at p m).name → IsMem p scope m kind ty → Spared p accs m → Used i m kind ty
  used i m kind ty text mem spared =
      let means = mem_means p scope here h.shown i m kind ty text mem in
      let symbol = means.seen_is seen h.same in
      let busy = ap (is_busy seen) text ∙ not_free (is_busy seen (mem_at p m).name) (mem_free p scope here seen accs h m mem.seen spared) in
      let name = name_right seen i _ symbol busy in
      record { symbol = symbol; name = name; use_right = two_none _ _ name (none_if (not (may_be kind (symbol_of seen i.text))) _ (ap (λ s. not (may_be kind s)) symbol ∙ ap not (same_kind kind))) }

  -- ---- spans

  abbrev pub SpansSpare : List program.PlainSpan → Type 0
  SpansSpare spans = (a : ℕ) → Contains accs a → SpansName (all_but p a) spans

  single_spared : (e : PlainExpr) (rest : List program.PlainSpan) → SpansSpare (program.single e ∷ rest) → Spares p accs e × SpansSpare rest
  single_spared e rest s = (λ a at. (s a at).0, λ a at. (s a at).1)

  -- how many ranges there are in the tree
  ranges_from : {spans : List program.PlainSpan} {xs : List tree_of.PlainSpan} (n : ℕ) → AreSpanTrees (names_in p) spans xs → fold (λ a x. a + cond (is_range x) 1 0) n xs ≡ n + range_count spans
  ranges_from n AreSpanTrees.no_spans = omega arith
  ranges_from n (AreSpanTrees.more_spans (IsSpanTree.an_index t) ts) = ranges_from (n + 0) ts ∙ omega arith
  ranges_from n (AreSpanTrees.more_spans (IsSpanTree.a_range t u par) ts) = ranges_from (n + 1) ts ∙ omega arith

  pub ranges_same : {spans : List program.PlainSpan} {xs : List tree_of.PlainSpan} → AreSpanTrees (names_in p) spans xs → rule.range_count xs ≡ range_count spans
  ranges_same t = ranges_from 0 t ∙ omega arith

  no_range : {spans : List program.PlainSpan} {xs : List tree_of.PlainSpan} → AreSpanTrees (names_in p) spans xs → range_count spans ≡ 0 → has_range xs ≡ false
  no_range AreSpanTrees.no_spans e = refl
  no_range (AreSpanTrees.more_spans (IsSpanTree.an_index t) ts) e = no_range ts e
  no_range (AreSpanTrees.more_spans (IsSpanTree.a_range t u par) ts) e = absurd (omega (arith, e))

  pub spans_length : {spans : List program.PlainSpan} {xs : List tree_of.PlainSpan} → AreSpanTrees (names_in p) spans xs → length xs ≡ length spans
  spans_length AreSpanTrees.no_spans = refl
  spans_length (AreSpanTrees.more_spans t ts) = ap (λ n. suc n) (spans_length ts)

  pub par_none : {n : ℕ} {q : Option SynPar} (allowed : Bool) → IsParTree n q → (n ≡ 1) ⊎ (allowed ≡ true) → range_par allowed q ≡ []
  par_none allowed (IsParTree.one_lane e) h = refl
  par_none allowed (IsParTree.lanes {n = n} e) (inl one) = let bad : true ≡ false = sym (eq-eqb n 1 one) ∙ e in absurd (cc)
  par_none allowed (IsParTree.lanes e) (inr yes_allowed) = none_if (not allowed) _ (ap not yes_allowed)

  pub spans_right : {spans : List program.PlainSpan} {xs : List tree_of.PlainSpan} → AreSpanTrees (names_in p) spans xs → SpansTyped p scope spans → SpansSpare spans → LanesAtLastRange spans → spans_refusals seen true xs ≡ []
  spans_right AreSpanTrees.no_spans t s l = refl
  spans_right (AreSpanTrees.more_spans {rest = rest} (IsSpanTree.an_index {e = e} x) ts) t s l =
      two_none _ _ (two_none _ [] (right_at p scope here seen accs h (Some int_type) true x t.0.0.0 (ap (λ k. Some k) (sym t.0.0.1)) (λ a at. (s a at).0) (λ k. t.0.1)) refl) (spans_right ts t.1 (λ a at. (s a at).1) l)
  spans_right (AreSpanTrees.more_spans {rest = rest} {all = all} (IsSpanTree.a_range {a = e} {b = f} x y par) ts) t s l =
      two_none _ _
      (two_none _ _
      (two_none _ _ (right_at p scope here seen accs h (Some int_type) true x t.0.0.0 (ap (λ k. Some k) (sym t.0.0.1)) (λ a at. (s a at).0) (λ k. t.0.1))
      (right_at p scope here seen accs h (Some int_type) true y t.1.0.0 (ap (λ k. Some k) (sym t.1.0.1)) (λ a at. (s a at).1) (λ k. t.1.1)))
      (par_none (not (has_range all)) par (by l.0)))
      (spans_right ts t.3 (λ a at. (s a at).2) l.1)
    where
      by : {n : ℕ} → (n ≡ 1) ⊎ (range_count rest ≡ 0) → (n ≡ 1) ⊎ (not (has_range all) ≡ true)
      by (inl e) = inl e
      by (inr e) = inr (ap not (no_range ts e))

  -- ---- counters

  abbrev pub CountersSpare : List program.PlainCounter → Type 0
  CountersSpare cs = (a : ℕ) → Contains accs a → CountersName (all_but p a) cs

  from_right : {e : PlainExpr} {x : Option tree.PlainExpr} → IsFromTree (names_in p) e x → Rattle.sp_tree.specs.Typing.HasTypeStill p scope int_type e → Spares p accs e → from_refusals seen x ≡ []
  from_right (IsFromTree.from_zero z) t s = refl
  from_right (IsFromTree.from z x) t s = right_at p scope here seen accs h (Some int_type) true x t.0.0 (ap (λ k. Some k) (sym t.0.1)) s (λ k. t.1)

  lanes_none : {n : ℕ} {q : Option SynPar} (last : Bool) → IsParTree n q → (n ≡ 1) ⊎ (last ≡ true) → counter_par last q ≡ []
  lanes_none last (IsParTree.one_lane e) h = refl
  lanes_none last (IsParTree.lanes {n = n} e) (inl one) = let bad : true ≡ false = sym (eq-eqb n 1 one) ∙ e in absurd (cc)
  lanes_none last (IsParTree.lanes {n = n} e) (inr at_last) = none_if (not last && nat_lt 1 n) _ (ap (λ b. not b && nat_lt 1 n) at_last)

  last_or_one : (c : program.PlainCounter) (rest : List program.PlainCounter) {xs : List tree_of.PlainCounter} → AreCounterTrees (names_in p) rest xs → LanesAtEnd p (c ∷ rest) → (c.par ≡ 1) ⊎ (is_empty xs ≡ true)
  last_or_one c [] AreCounterTrees.no_counters l = inr refl
  last_or_one c (d ∷ rest) (AreCounterTrees.more_counters t ts) l = inl l.0

  later_lanes : (c : program.PlainCounter) (rest : List program.PlainCounter) {xs : List tree_of.PlainCounter} → AreCounterTrees (names_in p) rest xs → LanesAtEnd p (c ∷ rest) → (xs ≡ []) ⊎ LanesAtEnd p rest
  later_lanes c [] AreCounterTrees.no_counters l = inl refl
  later_lanes c (d ∷ rest) (AreCounterTrees.more_counters t ts) l = inr l.1

  pub counters_right : {cs : List program.PlainCounter} {xs : List tree_of.PlainCounter} → AreCounterTrees (names_in p) cs xs → BoundsTyped p scope cs → CountersSpare cs → (xs ≡ []) ⊎ LanesAtEnd p cs → counters_refusals seen xs ≡ []
  counters_right AreCounterTrees.no_counters t s l = refl
  counters_right (AreCounterTrees.more_counters {c = c} {x = x} {rest = rest} {all = all} k ts) t s (inl none) = absurd (cc)
  counters_right (AreCounterTrees.more_counters {c = c} {x = x} {rest = rest} {all = all} k ts) t s (inr l) =
      two_none _ _
      (three_none _ _ _ (from_right k.from t.0 (λ a at. (s a at).0))
      (right_at p scope here seen accs h (Some int_type) true k.until t.1.0.0 (ap (λ y. Some y) (sym t.1.0.1)) (λ a at. (s a at).1) (λ y. t.1.1))
      (lanes_none (is_empty all) k.par (last_or_one c rest ts l)))
      (counters_right ts t.4 (λ a at. (s a at).2) (later_lanes c rest ts l))
