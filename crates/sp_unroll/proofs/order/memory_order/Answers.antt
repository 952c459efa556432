use Rattle.std.proofs.Common.{◌++◌, ◌∷◌, [], true, length, map, ap, ◌∙◌}
use Rattle.sp_core.specs.Plain.{plain_mem, plain_node}
use Rattle.sp_lanes.specs.Order.{memories_in}
use Rattle.sp_unroll.specs.Arranged.{arranged, is_kept, singles, ports_below}
use Rattle.sp_unroll.proofs.OrderLemmas.{order_is}
use Rattle.sp_unroll.proofs.order.memory_order.Goals as goal

pub returns : goal.returns
returns c = λ ports.
    let all = map plain_mem c.args.mems.now in
    let k = is_kept all true in
    c.in_ok-extend_from_slice.ensures.items
    ∙ ap (λ x. x ++ c.deref.result.now) c.in_ok-all.ensures
    ∙ ap (λ x. arranged (singles k (ports_below all (length c.args.mems.now)) ++ memories_in k (plain_node c.args.root.now) ∷ []) ++ x) (c.deref.ensures.value ∙ c.in_ok-added.ensures)
    ∙ order_is c.args.mems.now ports (plain_node c.args.root.now)
