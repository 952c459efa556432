use Rattle.std.proofs.Common.{◌≡◌, ◌+◌, ◌∷◌, ◌++◌, drop, sym, ap, ◌∙◌, arith}
use Rattle.std.proofs.lemmas.List.{drop_more, at_drop_all}
use Rattle.sp_reader.specs.PlainProgram.{plain_span, plain_spans}
use Rattle.sp_types.specs.First.{notes}
use Rattle.sp_types.specs.Plain.{visible_of}
use Rattle.sp_types.specs.Spans.{span_refusals, span_par, spans_refusals}
use Rattle.sp_types.proofs.FindingLemmas.{notes_next, notes_none, notes_two}
use Rattle.sp_types.proofs.SpanLemmas.{rest_from}
use Rattle.sp_types.proofs.span.check_spans.Goals as goal

pub loop-i-preserved : goal.loop-i-preserved
loop-i-preserved c =
    let xs = c.args.spans.now in
    let rest = drop (c.loop-i.i + 1) xs in
    let item = c.index-spans-i.result in
    let s = drop_more xs c.loop-i.i item c.loop-i-test.true ∙ ap (λ x. x ∷ rest) (sym c.index-spans-i.is) in
    let seen = visible_of c.args.scope.now in
    let lanes = c.args.lanes in
    let first = span_refusals seen (plain_span item) in
    let par = span_par lanes (plain_span item) (plain_spans rest) in
    notes_next c.loop-i.finding.first c.check_span_par.new.finding.first _ (first ++ par) (spans_refusals seen lanes (plain_spans rest))
    (notes_two c.loop-i.finding.first first par _ _ c.check_span.ensures
    (c.check_span_par.ensures ∙ ap (λ ys. notes c.check_span.new.finding.first (span_par lanes (plain_span item) (plain_spans ys))) (rest_from (c.loop-i.i + 1) xs)))
    (ap (λ ys. notes c.loop-i.finding.first (spans_refusals seen lanes (plain_spans ys))) (sym s) ∙ c.loop-i.invariant)

pub returns : goal.returns
returns c =
    let seen = visible_of c.args.scope.now in
    sym (notes_none c.loop-i.finding.first)
    ∙ sym (at_drop_all (λ xs. notes c.loop-i.finding.first (spans_refusals seen c.args.lanes (plain_spans xs))) c.args.spans.now c.loop-i.i (omega arith))
    ∙ c.loop-i.invariant
