use Rattle.std.proofs.Common.{◌+◌, [], ◌∷◌, ◌++◌, map, take, sym, ap, ◌∙◌, subst}
use Rattle.std.proofs.lemmas.List.{take_all, take_more}
use Rattle.sp_core.specs.Plain.{plain_counter, plain_ops}
use Rattle.sp_tree_handed.specs.Lists.{bounds_in}
use Rattle.sp_tree_accesses.specs.Walks.{AddsLists}
use Rattle.sp_tree_accesses.proofs.Walking.{adds_none, counter_step}
use Rattle.sp_tree_accesses.proofs.walk.add_bounds.Goals as goal

pub loop-counter-init : goal.loop-counter-init
loop-counter-init c n = adds_none c.args.copies.now c.args.acted.now c.args.walk.now

pub loop-counter-preserved : goal.loop-counter-preserved
loop-counter-preserved c =
    let lt = c.loop-counter-test.true in
    counter_step c.args.copies.now c.args.acted.now (take c.loop-counter.counter-index c.args.counters.now) (take (c.loop-counter.counter-index + 1) c.args.counters.now) c.counter-item.result c.args.walk.now c.loop-counter.walk c.add_list.new.walk c.add_list-in-loop-counter.new.walk
    (plain_ops c.deref.result.now) (plain_ops c.deref-in-loop-counter.result.now)
    (take_more c.args.counters.now c.loop-counter.counter-index c.counter-item.result lt ∙ ap (λ x. take c.loop-counter.counter-index c.args.counters.now ++ x ∷ []) (sym c.counter-item.is))
    (ap plain_ops c.deref.ensures.value) (ap plain_ops c.deref-in-loop-counter.ensures.value) c.loop-counter.invariant c.in_ok-add_list.ensures c.in_ok-add_list-2.ensures

pub returns : goal.returns
returns c n =
    subst (λ l. AddsLists (bounds_in (map plain_counter l) n) c.args.copies.now c.args.acted.now c.args.walk.now c.loop-counter.walk) (take_all c.loop-counter.counter-index c.args.counters.now c.loop-counter-test.false) (c.loop-counter.invariant n)
