use Rattle.std.proofs.Common.{◌≡◌, ◌==◌, length, ◌+◌, ◌∷◌, drop, sym, ap, ◌∙◌, arith}
use Rattle.std.proofs.lemmas.List.{drop_more, at_drop_all}
use Rattle.sp_reader.specs.PlainProgram.{plain_counter, plain_counters}
use Rattle.sp_types.specs.First.{notes}
use Rattle.sp_types.specs.Plain.{visible_of}
use Rattle.sp_types.specs.Spans.{is_empty, counter_refusals, counters_refusals}
use Rattle.sp_types.proofs.FindingLemmas.{notes_next, notes_none}
use Rattle.sp_types.proofs.SpanLemmas.{none_left, rest_from}
use Rattle.sp_types.proofs.span.check_counters.Goals as goal

pub loop-i-preserved : goal.loop-i-preserved
loop-i-preserved c =
    let xs = c.args.counters.now in
    let rest = drop (c.loop-i.i + 1) xs in
    let item = c.index-counters-i.result in
    let s = drop_more xs c.loop-i.i item c.loop-i-test.true ∙ ap (λ x. x ∷ rest) (sym c.index-counters-i.is) in
    let seen = visible_of c.args.scope.now in
    notes_next c.loop-i.finding.first c.check_counter.new.finding.first _ (counter_refusals seen (is_empty (plain_counters rest)) (plain_counter item)) (counters_refusals seen (plain_counters rest))
    (c.check_counter.ensures ∙ ap (λ b. notes c.loop-i.finding.first (counter_refusals seen b (plain_counter item))) (c.is_empty-last.ensures ∙ ap (λ ys. length ys == 0) (rest_from (c.loop-i.i + 1) xs) ∙ none_left rest))
    (ap (λ ys. notes c.loop-i.finding.first (counters_refusals seen (plain_counters ys))) (sym s) ∙ c.loop-i.invariant)

pub returns : goal.returns
returns c =
    let seen = visible_of c.args.scope.now in
    sym (notes_none c.loop-i.finding.first)
    ∙ sym (at_drop_all (λ xs. notes c.loop-i.finding.first (counters_refusals seen (plain_counters xs))) c.args.counters.now c.loop-i.i (omega arith))
    ∙ c.loop-i.invariant
