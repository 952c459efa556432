use Rattle.std.proofs.Common.{◌++◌, ◌+◌, ◌∷◌, [], map, drop, sym, ap, ◌∙◌, arith, append-nil}
use Rattle.std.proofs.lemmas.List.{drop_more, at_drop_all}
use Rattle.sp_reader.specs.PlainProgram.{plain_counter as tree_counter, plain_counters}
use Rattle.sp_tree.specs.PlainTree.{plain_counter}
use Rattle.sp_typed.specs.Plain.{here_of}
use Rattle.sp_typed.specs.Statements.{counter_typed, counters_typed}
use Rattle.sp_typed.proofs.RowLemmas.{grown}
use Rattle.sp_typed.proofs.span.counters_typed.Goals as goal

pub loop-counter-preserved : goal.loop-counter-preserved
loop-counter-preserved c =
    let here = here_of c.args.scope.now in
    let xs = c.args.counters.now in
    let rest = drop (c.loop-counter.counter-index + 1) xs in
    let item = c.counter-item.result in
    let s = drop_more xs c.loop-counter.counter-index item c.loop-counter-test.true ∙ ap (λ x. x ∷ rest) (sym c.counter-item.is) in
    let n = c.loop-counter.number in
    ap (λ ys. map plain_counter ys ++ counters_typed here c.in_ok-number.number (plain_counters rest)) c.in_ok-push.ensures.items
    ∙ ap (λ m. map plain_counter (c.loop-counter.typed_counters.items ++ c.in_ok-counter_typed.field-0 ∷ []) ++ counters_typed here m (plain_counters rest)) c.in_ok-number.ensures
    ∙ grown plain_counter c.loop-counter.typed_counters.items c.in_ok-counter_typed.field-0 (counter_typed here n (tree_counter item)) (counters_typed here (n + 1) (plain_counters rest)) c.in_ok-counter_typed.ensures
    ∙ ap (λ ys. map plain_counter c.loop-counter.typed_counters.items ++ counters_typed here n (plain_counters ys)) (sym s)
    ∙ c.loop-counter.invariant

pub returns : goal.returns
returns c =
    let here = here_of c.args.scope.now in
    let done = map plain_counter c.loop-counter.typed_counters.items in
    sym (append-nil done)
    ∙ sym (at_drop_all (λ xs. done ++ counters_typed here c.loop-counter.number (plain_counters xs)) c.args.counters.now c.loop-counter.counter-index (omega arith))
    ∙ c.loop-counter.invariant
