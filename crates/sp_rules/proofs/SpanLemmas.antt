-- Spans, counters, binders and combiners: they keep the rules exactly where they have no refusals.
use Rattle.std.proofs.Common.{◌≡◌, ℕ, ◌≤◌, Bool, true, false, not, ◌&&◌, List, [], ◌∷◌, ◌++◌, length, Option, Some, None, is_some, refl, sym, ap, ◌∙◌, inl, inr, true≢false, arith}
use Rattle.std.specs.Prelude.{All, nat_lt}
use Rattle.std.proofs.lemmas.Bool.{eqb-true, eq-eqb, ltb-true, ltb-false}
use Rattle.std.proofs.lemmas.List.Elements.{All-head, All-tail}
use Rattle.std.proofs.lemmas.Slice.Eq.{bytes_eq-Decides}
use Rattle.sp_words.specs.declared.types.Ty.{Ty}
use Rattle.sp_words.specs.declared.types.Ty.TheVariants.{Fix, Bit}
use Rattle.sp_words.specs.Types.{int_type}
use Rattle.sp_reader.specs.declared.syntax.statement.SynPar.{SynPar}
use Rattle.sp_reader.specs.PlainTree.{PlainIdent, PlainExpr}
use Rattle.sp_reader.specs.PlainStatement.{PlainSpan, single, range, PlainCounter, PlainComb}
use Rattle.sp_tree.specs.Typing.{IsNumber}
use Rattle.sp_types.specs.Spans as rule
use Rattle.sp_types.specs.Statements.{head_refusals}
use Rattle.sp_types.specs.Visible.{counter, Visible, symbol_of, declare}
use Rattle.sp_typed.proofs.NoneLemmas.{both_none, three_none, not_noted, was_true}
use Rattle.sp_typed.proofs.VisibleLemmas.{HaveTypes}
use Rattle.sp_typed.specs.ReadTree.{IsReadExpr, IsReadSpan, IsReadFrom, IsReadCounter}
use Rattle.sp_rules.specs.SpanRules.{IsBound, LanesFit, AreSpans, CounterLanes, IsFrom, AreCounters, IsNew, AreNew, AsMany, IsHead, SameNames, Combines}
use Rattle.sp_rules.proofs.BasicLemmas as none
use Rattle.sp_rules.proofs.BasicLemmas.{no_if, not_true, none_there, both}
use Rattle.sp_rules.proofs.ExpressionNone.{expr_none, no_must}
use Rattle.sp_rules.proofs.ExpressionKept.{expr_kept}

pub bound_none : (seen : Visible) (e : PlainExpr) → IsBound seen e → rule.bound_refusals seen e ≡ []
bound_none seen e h = expr_none seen rule.bound int_type e refl (λ n. no_must n) h

pub bound_kept : (seen : Visible) → HaveTypes seen → (e : PlainExpr) → IsReadExpr e → rule.bound_refusals seen e ≡ [] → IsBound seen e
bound_kept seen types e read none = expr_kept seen types rule.bound int_type e refl read none

-- ---- spans

par_none : (may : Bool) (par : Option SynPar) (rest : List PlainSpan) → LanesFit may par rest → rule.range_par (may && not (rule.has_range rest)) par ≡ []
par_none may None rest h = refl
par_none may (Some par) rest h = no_if _ _ (not_true _ (both may (not (rule.has_range rest)) h.0 (ap not h.1)))

both_are : (a b : Bool) → (a && not b) ≡ true → (a ≡ true) × (b ≡ false)
both_are true true e = absurd (true≢false (sym e))
both_are true false e = (refl, refl)
both_are false b e = absurd (true≢false (sym e))

par_kept : (may : Bool) (par : Option SynPar) (rest : List PlainSpan) → rule.range_par (may && not (rule.has_range rest)) par ≡ [] → LanesFit may par rest
par_kept may None rest none = tt
par_kept may (Some par) rest none = both_are may (rule.has_range rest) (was_true _ (not_noted _ _ none))

pub spans_none : (seen : Visible) (may : Bool) (spans : List PlainSpan) → AreSpans seen may spans → rule.spans_refusals seen may spans ≡ []
spans_none seen may [] h = refl
spans_none seen may (single e ∷ rest) h =
    none.two (rule.bound_refusals seen e ++ []) (rule.spans_refusals seen may rest) (none.two (rule.bound_refusals seen e) [] (bound_none seen e h.0) refl) (spans_none seen may rest h.1)
spans_none seen may (range a b par ∷ rest) h =
    none.two (rule.span_refusals seen (range a b par) ++ rule.span_par may (range a b par) rest) (rule.spans_refusals seen may rest)
    (none.two (rule.span_refusals seen (range a b par)) (rule.span_par may (range a b par) rest)
    (none.two (rule.bound_refusals seen a) (rule.bound_refusals seen b) (bound_none seen a h.0) (bound_none seen b h.1)) (par_none may par rest h.2))
    (spans_none seen may rest h.3)

pub spans_kept : (seen : Visible) → HaveTypes seen → (may : Bool) (spans : List PlainSpan) → All IsReadSpan spans → rule.spans_refusals seen may spans ≡ [] → AreSpans seen may spans
spans_kept seen types may [] read none = tt
spans_kept seen types may (single e ∷ rest) read none =
    let f = both_none _ (rule.spans_refusals seen may rest) none in
    let g = both_none (rule.bound_refusals seen e) _ f.0 in
    (bound_kept seen types e (All-head IsReadSpan (single e) rest read) g.0, spans_kept seen types may rest (All-tail IsReadSpan (single e) rest read) f.1)
spans_kept seen types may (range a b par ∷ rest) read none =
    let f = both_none _ (rule.spans_refusals seen may rest) none in
    let g = both_none (rule.span_refusals seen (range a b par)) _ f.0 in
    let k = both_none (rule.bound_refusals seen a) (rule.bound_refusals seen b) g.0 in
    let r = All-head IsReadSpan (range a b par) rest read in
    (bound_kept seen types a r.0 k.0, bound_kept seen types b r.1 k.1, par_kept may par rest g.1, spans_kept seen types may rest (All-tail IsReadSpan (range a b par) rest read) f.1)

-- ---- counters

few : (n : ℕ) (b : Bool) → nat_lt 1 n ≡ b → n ≤ 1 → b ≡ false
few n true e h = absurd (let f = ltb-true 1 n e in omega arith)
few n false e h = refl

lanes_none : (last : Bool) (par : Option SynPar) → CounterLanes last par → rule.counter_par last par ≡ []
lanes_none last None h = refl
lanes_none last (Some par) (inl e) = no_if _ _ (ap (λ b. not b && nat_lt 1 par.lanes) e)
lanes_none true (Some par) (inr h) = refl
lanes_none false (Some par) (inr h) = no_if _ _ (few par.lanes (nat_lt 1 par.lanes) refl h)

lanes_kept : (last : Bool) (par : Option SynPar) → rule.counter_par last par ≡ [] → CounterLanes last par
lanes_kept last None none = tt
lanes_kept true (Some par) none = inl refl
lanes_kept false (Some par) none = inr (ltb-false 1 par.lanes (not_noted _ _ none))

from_none : (seen : Visible) (from : Option PlainExpr) → IsFrom seen from → rule.from_refusals seen from ≡ []
from_none seen None h = refl
from_none seen (Some e) h = bound_none seen e h

from_kept : (seen : Visible) → HaveTypes seen → (from : Option PlainExpr) → IsReadFrom from → rule.from_refusals seen from ≡ [] → IsFrom seen from
from_kept seen types None read none = tt
from_kept seen types (Some e) read none = bound_kept seen types e read none

counters_none : (seen : Visible) (cs : List PlainCounter) → AreCounters seen cs → rule.counters_refusals seen cs ≡ []
counters_none seen [] h = refl
counters_none seen (c ∷ rest) h =
    none.two (rule.counter_refusals seen (rule.is_empty rest) c) (rule.counters_refusals seen rest)
    (none.three (rule.from_refusals seen c.from) (rule.bound_refusals seen c.until) (rule.counter_par (rule.is_empty rest) c.par)
    (from_none seen c.from h.0) (bound_none seen c.until h.1) (lanes_none (rule.is_empty rest) c.par h.2))
    (counters_none seen rest h.3)

counters_kept : (seen : Visible) → HaveTypes seen → (cs : List PlainCounter) → All IsReadCounter cs → rule.counters_refusals seen cs ≡ [] → AreCounters seen cs
counters_kept seen types [] read none = tt
counters_kept seen types (c ∷ rest) read none =
    let f = both_none (rule.counter_refusals seen (rule.is_empty rest) c) (rule.counters_refusals seen rest) none in
    let g = three_none (rule.from_refusals seen c.from) (rule.bound_refusals seen c.until) (rule.counter_par (rule.is_empty rest) c.par) f.0 in
    let r = All-head IsReadCounter c rest read in
    (from_kept seen types c.from r.from g.0, bound_kept seen types c.until r.until g.1, lanes_kept (rule.is_empty rest) c.par g.2, counters_kept seen types rest (All-tail IsReadCounter c rest read) f.1)

-- ---- names that are given

pub new_none : (seen : Visible) (i : PlainIdent) → IsNew seen i → rule.twice seen i ≡ []
new_none seen i h = no_if _ _ (ap is_some h)

pub new_kept : (seen : Visible) (i : PlainIdent) → rule.twice seen i ≡ [] → IsNew seen i
new_kept seen i none = none_there (symbol_of seen i.text) (not_noted _ _ none)

binds_none : (seen : Visible) (binds : List PlainIdent) → AreNew seen binds → rule.binds_refusals seen binds ≡ []
binds_none seen [] h = refl
binds_none seen (i ∷ rest) h = none.two (rule.twice seen i) (rule.binds_refusals (declare seen i.text counter) rest) (new_none seen i h.0) (binds_none (declare seen i.text counter) rest h.1)

binds_kept : (seen : Visible) (binds : List PlainIdent) → rule.binds_refusals seen binds ≡ [] → AreNew seen binds
binds_kept seen [] none = tt
binds_kept seen (i ∷ rest) none =
    let f = both_none (rule.twice seen i) (rule.binds_refusals (declare seen i.text counter) rest) none in
    (new_kept seen i f.0, binds_kept (declare seen i.text counter) rest f.1)

many_none : (n : ℕ) (binds : List PlainIdent) → AsMany n binds → rule.names_for_counters n binds ≡ []
many_none n [] h = refl
many_none n (i ∷ rest) h = no_if _ _ (not_true _ (eq-eqb n (length (i ∷ rest)) h))

many_kept : (n : ℕ) (binds : List PlainIdent) → rule.names_for_counters n binds ≡ [] → AsMany n binds
many_kept n [] none = tt
many_kept n (i ∷ rest) none = eqb-true n (length (i ∷ rest)) (was_true _ (not_noted _ _ none))

pub head_none : (seen : Visible) (cs : List PlainCounter) (binds : List PlainIdent) → IsHead seen cs binds → head_refusals seen cs binds ≡ []
head_none seen cs binds h =
    none.three (rule.counters_refusals seen cs) (rule.names_for_counters (length cs) binds) (rule.binds_refusals seen binds)
    (counters_none seen cs h.counters_right) (many_none (length cs) binds h.as_many) (binds_none seen binds h.binders)

pub head_kept : (seen : Visible) → HaveTypes seen → (cs : List PlainCounter) (binds : List PlainIdent) → All IsReadCounter cs → head_refusals seen cs binds ≡ [] → IsHead seen cs binds
head_kept seen types cs binds read none =
    let f = three_none (rule.counters_refusals seen cs) (rule.names_for_counters (length cs) binds) (rule.binds_refusals seen binds) none in
    record { counters_right = counters_kept seen types cs read f.0; as_many = many_kept (length cs) binds f.1; binders = binds_kept seen binds f.2 }

-- ---- combiners

no_bit : (b : Bool) (ty : Ty) → (b ≡ true → IsNumber ty) → (b && rule.is_bit_type (Some ty)) ≡ false
no_bit false ty h = refl
no_bit true Bit h = absurd (h refl refl)
no_bit true (Fix fix) h = refl

was_number : (b : Bool) (ty : Ty) → (b && rule.is_bit_type (Some ty)) ≡ false → b ≡ true → IsNumber ty
was_number true ty e t w = true≢false (ap (λ x. rule.is_bit_type (Some x)) (sym w) ∙ e)
was_number false ty e t w = true≢false (sym t)

other_none : (param arg : PlainIdent) → arg.text ≡ param.text → rule.other_name param arg ≡ []
other_none param arg e = no_if _ _ (not_true _ ((bytes_eq-Decides arg.text param.text).1 e))

other_kept : (param arg : PlainIdent) → rule.other_name param arg ≡ [] → arg.text ≡ param.text
other_kept param arg none = (bytes_eq-Decides arg.text param.text).0 (was_true _ (not_noted _ _ none))

names_none : (p q : Option (PlainIdent × PlainIdent)) → SameNames p q → rule.comb_names p q ≡ []
names_none None q h = refl
names_none (Some p) None h = refl
names_none (Some p) (Some q) h = none.two (rule.other_name p.0 q.0) (rule.other_name p.1 q.1) (other_none p.0 q.0 h.0) (other_none p.1 q.1 h.1)

names_kept : (p q : Option (PlainIdent × PlainIdent)) → rule.comb_names p q ≡ [] → SameNames p q
names_kept None q none = tt
names_kept (Some p) None none = tt
names_kept (Some p) (Some q) none =
    let f = both_none (rule.other_name p.0 q.0) (rule.other_name p.1 q.1) none in
    (other_kept p.0 q.0 f.0, other_kept p.1 q.1 f.1)

pub comb_none : (o : Option Ty) (ty : Ty) (c : PlainComb) → o ≡ Some ty → Combines ty c → rule.comb_refusals o c ≡ []
comb_none o ty c e h =
    ap (λ x. rule.comb_refusals x c) e
    ∙ none.two _ (rule.comb_names c.params c.args) (no_if _ _ (no_bit (rule.combines_numbers c.operator) ty h.operator)) (names_none c.params c.args h.names)

pub comb_kept : (o : Option Ty) (ty : Ty) (c : PlainComb) → o ≡ Some ty → rule.comb_refusals o c ≡ [] → Combines ty c
comb_kept o ty c e none =
    let f = both_none _ (rule.comb_names c.params c.args) (ap (λ x. rule.comb_refusals x c) (sym e) ∙ none) in
    record { operator = was_number (rule.combines_numbers c.operator) ty (not_noted _ _ f.0); names = names_kept c.params c.args f.1 }
