use Rattle.std.proofs.Common.{◌++◌, ◌+◌, ◌∷◌, map, drop, sym, ap, ◌∙◌, arith, append-nil}
use Rattle.std.proofs.lemmas.List.{drop_more, at_drop_all}
use Rattle.sp_reader.specs.PlainProgram.{plain_span as tree_span, plain_spans}
use Rattle.sp_tree.specs.PlainTree.{plain_span}
use Rattle.sp_typed.specs.Plain.{here_of}
use Rattle.sp_typed.specs.Statements.{span_typed, spans_typed}
use Rattle.sp_typed.proofs.RowLemmas.{grown}
use Rattle.sp_typed.proofs.span.spans_typed.Goals as goal

pub loop-span-preserved : goal.loop-span-preserved
loop-span-preserved c =
    let here = here_of c.args.scope.now in
    let xs = c.args.spans.now in
    let rest = drop (c.loop-span.span-index + 1) xs in
    let item = c.span-item.result in
    let s = drop_more xs c.loop-span.span-index item c.loop-span-test.true ∙ ap (λ x. x ∷ rest) (sym c.span-item.is) in
    ap (λ ys. map plain_span ys ++ spans_typed here (plain_spans rest)) c.in_ok-push.ensures.items
    ∙ grown plain_span c.loop-span.typed_spans.items c.in_ok-span_typed.field-0 (span_typed here (tree_span item)) (spans_typed here (plain_spans rest)) c.in_ok-span_typed.ensures
    ∙ ap (λ ys. map plain_span c.loop-span.typed_spans.items ++ spans_typed here (plain_spans ys)) (sym s)
    ∙ c.loop-span.invariant

pub returns : goal.returns
returns c =
    let here = here_of c.args.scope.now in
    let done = map plain_span c.loop-span.typed_spans.items in
    sym (append-nil done)
    ∙ sym (at_drop_all (λ xs. done ++ spans_typed here (plain_spans xs)) c.args.spans.now c.loop-span.span-index (omega arith))
    ∙ c.loop-span.invariant
