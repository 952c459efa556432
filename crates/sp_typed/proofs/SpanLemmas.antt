-- Spans and counters without refusals are typed.
use Rattle.std.proofs.Common.{◌≡◌, ℕ, ◌+◌, ◌*◌, ◌<◌, ◌≤◌, Bool, true, false, cond, not, ◌&&◌, ◌||◌, List, [], ◌∷◌, ◌++◌, length, Option, Some, None, refl, sym, ap, ◌∙◌, inl, inr, arith}
use Rattle.std.specs.Prelude.{All, ◌⊎◌, nat_lt}
use Rattle.std.proofs.lemmas.Bool.{ltb-false}
use Rattle.std.proofs.lemmas.List.Elements.{All-head, All-tail}
use Rattle.sp_words.specs.Types.{int_type}
use Rattle.sp_reader.specs.declared.syntax.statement.SynPar.{SynPar}
use Rattle.sp_reader.specs.PlainTree.{PlainExpr, place_of_expr}
use Rattle.sp_reader.specs.PlainStatement.{PlainSpan, single, range, PlainCounter}
use Rattle.sp_tree.specs.PlainProgram.{PlainProgram}
use Rattle.sp_tree.specs.Structure.{slice_lanes}
use Rattle.sp_tree.specs.Typing.{Scope, HasTypeStill, SpansTyped, LanesAtLastRange, BoundsTyped, LanesAtEnd, range_count}
use Rattle.sp_types.specs.Spans as rule
use Rattle.sp_types.specs.Visible.{Visible}
use Rattle.sp_typed.specs.Expressions.{typed}
use Rattle.sp_typed.specs.Laws.{Agree, AreSpansTyped, AreCountersTyped}
use Rattle.sp_typed.specs.Named.{Here, seen_at}
use Rattle.sp_typed.specs.ReadTree.{IsReadExpr, IsReadSpan, IsReadFrom, IsReadCounter}
use Rattle.sp_typed.specs.Statements.{lanes, spans_typed, from_typed, counters_typed}
use Rattle.sp_typed.proofs.DeclaredLemmas.{zero_word}
use Rattle.sp_typed.proofs.NoneLemmas.{both_none, three_none, not_noted, was_true}
use Rattle.sp_typed.proofs.StillLemmas.{still_right}

neither : (a b : Bool) → (a || b) ≡ false → (a ≡ false) × (b ≡ false)
neither true b e = absurd (cc)
neither false b e = (refl, e)

-- ---- lanes of spans

no_ranges : (here : Here) (spans : List PlainSpan) → rule.has_range spans ≡ false → range_count (spans_typed here spans) ≡ 0
no_ranges here [] e = refl
no_ranges here (single a ∷ rest) e = no_ranges here rest e
no_ranges here (range a b par ∷ rest) e = absurd (cc)

allowed : (may : Bool) (par : Option SynPar) → rule.range_par may par ≡ [] → (lanes par ≡ 1) ⊎ (may ≡ true)
allowed may None e = inl refl
allowed may (Some par) e = inr (was_true may (not_noted _ _ e))

was_false : (b : Bool) → not b ≡ true → b ≡ false
was_false true e = absurd (cc)
was_false false e = refl

at_last : (here : Here) (n : ℕ) (rest : List PlainSpan) → (n ≡ 1) ⊎ (not (rule.has_range rest) ≡ true) → (n ≡ 1) ⊎ (range_count (spans_typed here rest) ≡ 0)
at_last here n rest (inl e) = inl e
at_last here n rest (inr e) = inr (no_ranges here rest (was_false _ e))

last_range : (here : Here) (seen : Visible) (spans : List PlainSpan) → rule.spans_refusals seen true spans ≡ [] → LanesAtLastRange (spans_typed here spans)
last_range here seen [] none = tt
last_range here seen (single e ∷ rest) none = last_range here seen rest (both_none _ (rule.spans_refusals seen true rest) none).1
last_range here seen (range a b par ∷ rest) none =
    let f = both_none _ (rule.spans_refusals seen true rest) none in
    let g = both_none (rule.span_refusals seen (range a b par)) _ f.0 in
    (at_last here (lanes par) rest (allowed (not (rule.has_range rest)) par g.1), last_range here seen rest f.1)

never : (par : Option SynPar) → (lanes par ≡ 1) ⊎ (false ≡ true) → lanes par ≡ 1
never par (inl e) = e
never par (inr e) = absurd (cc)

no_lanes : (here : Here) (seen : Visible) (spans : List PlainSpan) → rule.spans_refusals seen false spans ≡ [] → slice_lanes (spans_typed here spans) ≡ 1
no_lanes here seen [] none = refl
no_lanes here seen (single e ∷ rest) none = no_lanes here seen rest (both_none _ (rule.spans_refusals seen false rest) none).1
no_lanes here seen (range a b par ∷ rest) none =
    let f = both_none _ (rule.spans_refusals seen false rest) none in
    let g = both_none (rule.span_refusals seen (range a b par)) _ f.0 in
    ap (λ n. n * slice_lanes (spans_typed here rest)) (never par (allowed false par g.1)) ∙ ap (λ n. 1 * n) (no_lanes here seen rest f.1)

-- ---- lanes of counters

one_lane : (par : Option SynPar) → 1 ≤ lanes par → rule.counter_par false par ≡ [] → lanes par ≡ 1
one_lane None h e = refl
one_lane (Some par) h e = let f = ltb-false 1 par.lanes (not_noted _ _ e) in omega arith

at_end : (p : PlainProgram) (here : Here) (seen : Visible) (n : ℕ) (cs : List PlainCounter) → All IsReadCounter cs → 1 ≤ length cs → rule.counters_refusals seen cs ≡ [] → LanesAtEnd p (counters_typed here n cs)
at_end p here seen n [] read some none = absurd (omega arith)
at_end p here seen n (c ∷ []) read some none = tt
at_end p here seen n (c ∷ d ∷ rest) read some none =
    let f = both_none (rule.counter_refusals seen false c) (rule.counters_refusals seen (d ∷ rest)) none in
    let g = three_none (rule.from_refusals seen c.from) (rule.bound_refusals seen c.until) (rule.counter_par false c.par) f.0 in
    (one_lane c.par (All-head IsReadCounter c (d ∷ rest) read).par.0 g.2, at_end p here seen (n + 1) (d ∷ rest) (All-tail IsReadCounter c (d ∷ rest) read) (omega arith) f.1)

-- ---- bounds

module _ (p : PlainProgram) (scope : Scope) (here : Here) (seen : Visible) (agree : Agree p scope here.names) (same : seen.names ≡ (seen_at here).names) where
  bound : (e : PlainExpr) → IsReadExpr e → rule.bound_refusals seen e ≡ [] → HasTypeStill p scope int_type (typed here int_type e)
  bound e read none = still_right p scope here seen agree same rule.bound int_type e refl refl read none

  spans_bounds : (may : Bool) (spans : List PlainSpan) → All IsReadSpan spans → rule.spans_refusals seen may spans ≡ [] → SpansTyped p scope (spans_typed here spans)
  spans_bounds may [] read none = tt
  spans_bounds may (single e ∷ rest) read none =
      let f = both_none _ (rule.spans_refusals seen may rest) none in
      let g = both_none (rule.bound_refusals seen e) _ f.0 in
      (bound e (All-head IsReadSpan (single e) rest read) g.0, spans_bounds may rest (All-tail IsReadSpan (single e) rest read) f.1)
  spans_bounds may (range a b par ∷ rest) read none =
      let f = both_none _ (rule.spans_refusals seen may rest) none in
      let g = both_none (rule.span_refusals seen (range a b par)) _ f.0 in
      let k = both_none (rule.bound_refusals seen a) (rule.bound_refusals seen b) g.0 in
      let r = All-head IsReadSpan (range a b par) rest read in
      (bound a r.0 k.0, bound b r.1 k.1, r.2, spans_bounds may rest (All-tail IsReadSpan (range a b par) rest read) f.1)

  from_bound : (place : ℕ) (from : Option PlainExpr) → IsReadFrom from → rule.from_refusals seen from ≡ [] → HasTypeStill p scope int_type (from_typed here place from)
  from_bound place (Some e) read none = bound e read none
  from_bound place None read none = ((zero_word int_type, refl), tt)

  counter_bounds : (n : ℕ) (cs : List PlainCounter) → All IsReadCounter cs → rule.counters_refusals seen cs ≡ [] → BoundsTyped p scope (counters_typed here n cs)
  counter_bounds n [] read none = tt
  counter_bounds n (c ∷ rest) read none =
      let f = both_none (rule.counter_refusals seen (rule.is_empty rest) c) (rule.counters_refusals seen rest) none in
      let g = three_none (rule.from_refusals seen c.from) (rule.bound_refusals seen c.until) (rule.counter_par (rule.is_empty rest) c.par) f.0 in
      let r = All-head IsReadCounter c rest read in
      (from_bound (place_of_expr c.until) c.from r.from g.0, bound c.until r.until g.1, r.step, r.par, counter_bounds (n + 1) rest (All-tail IsReadCounter c rest read) f.1)

  pub spans_right : (may : Bool) (spans : List PlainSpan) → All IsReadSpan spans → rule.spans_refusals seen may spans ≡ [] → AreSpansTyped p scope here may spans
  spans_right true spans read none = record { bounds = spans_bounds true spans read none; one_range = λ e. last_range here seen spans none; no_range = λ e. absurd (cc) }
  spans_right false spans read none = record { bounds = spans_bounds false spans read none; one_range = λ e. absurd (cc); no_range = λ e. no_lanes here seen spans none }

  pub counters_right : (n : ℕ) (cs : List PlainCounter) → All IsReadCounter cs → rule.counters_refusals seen cs ≡ [] → AreCountersTyped p scope here n cs
  counters_right n cs read none = record { bounds = counter_bounds n cs read none; lanes = λ some. at_end p here seen n cs read some none }
