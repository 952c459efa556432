use Rattle.std.proofs.Common.{◌≡◌, ◌++◌, ◌+◌, ◌-◌, suc, append_assoc, arith, sym, ap, ◌∙◌}
use Rattle.sp_lanes.specs.Order.{repeated}
use Rattle.sp_unroll.proofs.order.lane_by_lane.Goals as goal

pub loop-lane-preserved : goal.loop-lane-preserved
loop-lane-preserved c =
    let list = c.in_ok-list.list.items in
    let all = c.loop-lane.all.items in
    let left = c.lanes_of-lanes.result - (c.loop-lane._lane + 1) in
    let e : c.extend_from_slice.new.self.items ≡ all ++ list = c.in_ok-extend_from_slice.ensures.items ∙ ap (λ x. all ++ x) c.deref.ensures.value in
    let n : c.lanes_of-lanes.result - c.loop-lane._lane ≡ suc left = omega (arith, c.loop-lane-test.true) in
    ap (λ x. x ++ repeated left list) e
    ∙ append_assoc all list (repeated left list)
    ∙ sym (ap (λ m. all ++ repeated m list) n)
    ∙ c.loop-lane.invariant
