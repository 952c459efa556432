use Rattle.std.proofs.Common.{◌≡◌, ◌++◌, ◌+◌, ◌-◌, ◌∷◌, [], zero, suc, length, map, append-nil, arith, refl, sym, ap, ◌∙◌}
use Rattle.sp_core.specs.Plain.{plain_counter, plain_ops}
use Rattle.sp_lanes.specs.Bodies.{nowhere, lane_body, more_bodies, lane_bodies, all_ops}
use Rattle.sp_lanes.specs.Unrolled.{last_number}
use Rattle.sp_lanes.specs.Within.{in_lane}
use Rattle.sp_unroll.specs.Bodies.{plain_body, bare}
use Rattle.sp_unroll.specs.Entries.{within_of}
use Rattle.sp_unroll.proofs.BodyLemmas.{lanes_step, bare_step, lanes_first, bare_first}
use Rattle.sp_unroll.proofs.bodies.lane_bodies.Goals as goal

pub push_first_lane-requires : goal.push_first_lane-requires
push_first_lane-requires c = record { no_ops = c.requires; no_lanes = c.new-lanes.ensures.items }

pub loop-lane-init : goal.loop-lane-init
loop-lane-init c =
    let counters = map plain_counter c.args.counters.now in
    let counter = last_number counters in
    let inside = in_lane c.args.order.now counters c.args.owned.now (within_of c.args.order.now c.args.w.now) in
    let body = plain_ops c.args.body.now in
    let count = c.lanes_of-count.result in
    let others = c.in_ok-others.others.items in
    let all = plain_ops c.push_first_lane.new.ops.items in
    let b = lane_body counter inside body 0 0 (nowhere body) in
    let h = c.in_ok-others.ensures in
    record {
      ops = lanes_first counter inside body c.args.owned.now count all b others refl h.ops h.others;
      lanes = ap (λ l. l ++ map bare (more_bodies counter inside body 1 (count - 1) (length all) others)) h.lanes
          ∙ bare_first counter inside body c.args.owned.now count all b (bare b) others refl h.ops h.others refl;
    }

pub loop-lane-preserved : goal.loop-lane-preserved
loop-lane-preserved c =
    let counters = map plain_counter c.args.counters.now in
    let counter = last_number counters in
    let inside = in_lane c.args.order.now counters c.args.owned.now (within_of c.args.order.now c.args.w.now) in
    let body = plain_ops c.args.body.now in
    let count = c.lanes_of-count.result in
    let others = c.in_ok-others.others.items in
    let lane = c.loop-lane.lane in
    let out = plain_ops c.loop-lane.ops.items in
    let all = plain_ops c.push_lane_body.new.ops.items in
    let made = map plain_body c.loop-lane.lanes.items in
    let b = lane_body counter inside body lane (length out) others in
    let h : all ≡ out ++ b.ops = c.in_ok-push_lane_body.ensures.ops ∙ ap (λ o. out ++ (lane_body counter inside body lane (length out) o).ops) c.deref.ensures.value in
    let g : map plain_body c.push_lane_body.new.lanes.items ≡ made ++ bare b ∷ [] = c.in_ok-push_lane_body.ensures.lanes ∙ ap (λ o. made ++ bare (lane_body counter inside body lane (length out) o) ∷ []) c.deref.ensures.value in
    let s : lane + 1 ≡ suc lane = omega arith in
    let l : count - lane ≡ suc (count - (lane + 1)) = omega (arith, c.loop-lane-test.true) in
    record {
      ops = lanes_step counter inside body others lane (lane + 1) (count - lane) (count - (lane + 1)) out all b s l refl h ∙ c.loop-lane.invariant.ops;
      lanes = ap (λ x. x ++ map bare (more_bodies counter inside body (lane + 1) (count - (lane + 1)) (length all) others)) g
          ∙ bare_step counter inside body others lane (lane + 1) (count - lane) (count - (lane + 1)) out all made (bare b) b s l refl h refl
          ∙ c.loop-lane.invariant.lanes;
    }

pub returns-clause-ops : goal.returns-clause-ops
returns-clause-ops c =
    let counters = map plain_counter c.args.counters.now in
    let counter = last_number counters in
    let inside = in_lane c.args.order.now counters c.args.owned.now (within_of c.args.order.now c.args.w.now) in
    let body = plain_ops c.args.body.now in
    let others = c.in_ok-others.others.items in
    let lane = c.loop-lane.lane in
    let out = plain_ops c.loop-lane.ops.items in
    let z : c.lanes_of-count.result - lane ≡ zero = omega (arith, c.loop-lane-test.false) in
    sym (append-nil out)
    ∙ sym (ap (λ k. out ++ all_ops (more_bodies counter inside body lane k (length out) others)) z)
    ∙ c.loop-lane.invariant.ops
    ∙ ap (λ k. all_ops (lane_bodies counter inside body c.args.owned.now k)) c.lanes_of-count.ensures

pub returns-clause-lanes : goal.returns-clause-lanes
returns-clause-lanes c =
    let counters = map plain_counter c.args.counters.now in
    let counter = last_number counters in
    let inside = in_lane c.args.order.now counters c.args.owned.now (within_of c.args.order.now c.args.w.now) in
    let body = plain_ops c.args.body.now in
    let others = c.in_ok-others.others.items in
    let lane = c.loop-lane.lane in
    let out = plain_ops c.loop-lane.ops.items in
    let made = map plain_body c.loop-lane.lanes.items in
    let z : c.lanes_of-count.result - lane ≡ zero = omega (arith, c.loop-lane-test.false) in
    sym (append-nil made)
    ∙ sym (ap (λ k. made ++ map bare (more_bodies counter inside body lane k (length out) others)) z)
    ∙ c.loop-lane.invariant.lanes
    ∙ ap (λ k. map bare (lane_bodies counter inside body c.args.owned.now k)) c.lanes_of-count.ensures
