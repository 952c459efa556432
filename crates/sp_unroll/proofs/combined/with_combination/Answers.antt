use Rattle.std.proofs.Common.{◌++◌, drop, length, map, ap, ◌∙◌}
use Rattle.sp_core.specs.Around.{lanes_of}
use Rattle.sp_core.specs.Plain.{plain_counter, plain_ops}
use Rattle.sp_lanes.specs.Unrolled.{last_number}
use Rattle.sp_lanes.specs.Within.{Within, in_lane, ops_in}
use Rattle.sp_unroll.specs.Bodies.{plain_body}
use Rattle.sp_unroll.specs.Entries.{within_of}
use Rattle.sp_unroll.specs.Words.{combined_at}
use Rattle.sp_unroll.proofs.CombineLemmas.{all_from, with_made}
use Rattle.sp_unroll.proofs.combined.with_combination.Goals as goal

pub returns : goal.returns
returns c =
    let counters = map plain_counter c.args.counters.now in
    let inside = in_lane c.args.order.now counters c.args.owned.now (within_of c.args.order.now c.args.w.now) in
    let ops = c.args.ops.now in
    let cut = c.min-cut.result in
    let all = plain_ops c.lane_bodies.new.ops.items in
    let k = c.last_number-counter.result in
    with_made (last_number counters) c.args.first inside c.args.owned.now (lanes_of counters) ops cut k all (plain_ops c.push_combined.new.ops.items) (plain_ops c.in_ok-combination.combination.items) (map plain_body c.in_ok-lanes.lanes.items)
    c.min-cut.ensures c.last_number-counter.ensures c.in_ok-lanes.ensures.ops c.in_ok-lanes.ensures.lanes
    (c.in_ok-combination.ensures
    ∙ ap (λ l. ops_in (within_of c.args.order.now c.in_ok-inside.inside) (plain_ops l)) (all_from cut ops)
    ∙ ap (λ (w : Within). ops_in w (plain_ops (drop cut ops))) c.in_ok-inside.ensures)
    (c.in_ok-push_combined.ensures
    ∙ (λ i. all ++ combined_at k c.args.first (map plain_body (c.deref.ensures.value i)) (length all) (plain_ops (c.deref-2.ensures.value i))))
