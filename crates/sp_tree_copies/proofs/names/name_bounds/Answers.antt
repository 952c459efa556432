use Rattle.std.proofs.Common.{◌+◌, ◌∷◌, ◌++◌, [], take, sym, ap, ◌∙◌}
use Rattle.std.proofs.lemmas.List.{take_more}
use Rattle.sp_core.specs.Plain.{plain_ops}
use Rattle.sp_copy_nets.specs.Table.{numbers_at}
use Rattle.sp_tree_copies.proofs.Walking.{counter_step}
use Rattle.sp_tree_copies.proofs.names.name_bounds.Goals as goal

pub loop-counter-preserved : goal.loop-counter-preserved
loop-counter-preserved c =
    let i = c.loop-counter.invariant in
    record {
      adds = counter_step (numbers_at c.args.around.now) (take c.loop-counter.counter-index c.args.counters.now) (take (c.loop-counter.counter-index + 1) c.args.counters.now) c.counter-item.result (plain_ops c.deref.result.now) (plain_ops c.deref-in-loop-counter.result.now) c.args.walk.now c.loop-counter.walk c.name_ops.new.walk c.name_ops-in-loop-counter.new.walk
          (take_more c.args.counters.now c.loop-counter.counter-index c.counter-item.result c.loop-counter-test.true ∙ ap (λ x. take c.loop-counter.counter-index c.args.counters.now ++ x ∷ []) (sym c.counter-item.is))
          (ap plain_ops c.deref.ensures.value) (ap plain_ops c.deref-in-loop-counter.ensures.value) i.adds c.in_ok-name_ops.ensures.adds c.in_ok-name_ops-2.ensures.adds;
      stand = λ core turns kept loops d all stand h. c.in_ok-name_ops-2.ensures.stand core turns kept loops d all stand (c.in_ok-name_ops.ensures.stand core turns kept loops d all stand (i.stand core turns kept loops d all stand h));
    }
