use Rattle.std.proofs.Common.{◌+◌, ◌∷◌, ◌++◌, [], take, sym, ap, ◌∙◌}
use Rattle.std.proofs.lemmas.List.{take_more}
use Rattle.sp_copy_nets.specs.Table.{numbers_at}
use Rattle.sp_tree_copies.proofs.Walking.{span_step}
use Rattle.sp_tree_copies.proofs.names.name_spans.Goals as goal

pub loop-span-preserved : goal.loop-span-preserved
loop-span-preserved c =
    let i = c.loop-span.invariant in
    record {
      adds = span_step (numbers_at c.args.around.now) (take c.loop-span.span-index c.args.spans.now) (take (c.loop-span.span-index + 1) c.args.spans.now) c.span-item.result c.args.walk.now c.loop-span.walk c.name_span.new.walk
          (take_more c.args.spans.now c.loop-span.span-index c.span-item.result c.loop-span-test.true ∙ ap (λ x. take c.loop-span.span-index c.args.spans.now ++ x ∷ []) (sym c.span-item.is)) i.adds c.in_ok-name_span.ensures.adds;
      stand = λ core turns kept loops d all stand h. c.in_ok-name_span.ensures.stand core turns kept loops d all stand (i.stand core turns kept loops d all stand h);
    }
