use Rattle.std.proofs.Common.{◌+◌, [], ◌∷◌, ◌++◌, map, take, sym, ap, ◌∙◌, subst}
use Rattle.std.proofs.lemmas.List.{take_all, take_more}
use Rattle.sp_core.specs.Plain.{plain_span}
use Rattle.sp_tree_handed.specs.Lists.{spans_in}
use Rattle.sp_tree_accesses.specs.Walks.{AddsLists}
use Rattle.sp_tree_accesses.proofs.Walking.{adds_none, span_step}
use Rattle.sp_tree_accesses.proofs.walk.add_spans.Goals as goal

pub loop-span-init : goal.loop-span-init
loop-span-init c n = adds_none c.args.copies.now c.args.acted.now c.args.walk.now

pub loop-span-preserved : goal.loop-span-preserved
loop-span-preserved c =
    span_step c.args.copies.now c.args.acted.now (take c.loop-span.span-index c.args.spans.now) (take (c.loop-span.span-index + 1) c.args.spans.now) c.span-item.result c.args.walk.now c.loop-span.walk c.add_span.new.walk
    (take_more c.args.spans.now c.loop-span.span-index c.span-item.result c.loop-span-test.true ∙ ap (λ x. take c.loop-span.span-index c.args.spans.now ++ x ∷ []) (sym c.span-item.is)) c.loop-span.invariant c.in_ok-add_span.ensures

pub returns : goal.returns
returns c n =
    subst (λ l. AddsLists (spans_in (map plain_span l) n) c.args.copies.now c.args.acted.now c.args.walk.now c.loop-span.walk) (take_all c.loop-span.span-index c.args.spans.now c.loop-span-test.false) (c.loop-span.invariant n)
