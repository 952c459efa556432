use Rattle.std.proofs.Common.{◌≡◌, ◌∷◌, [], map, ap, ◌∙◌}
use Rattle.sp_core.specs.Plain.{plain_counter, plain_ops}
use Rattle.sp_lanes.specs.Bodies.{standing, nowhere, lane_body}
use Rattle.sp_lanes.specs.Combined.{first_places}
use Rattle.sp_lanes.specs.Shared.{shared}
use Rattle.sp_lanes.specs.Unrolled.{last_number}
use Rattle.sp_lanes.specs.Within.{in_lane}
use Rattle.sp_unroll.specs.Bodies.{plain_body, bare}
use Rattle.sp_unroll.specs.Entries.{within_of}
use Rattle.sp_unroll.proofs.BodyLemmas.{first_ops, first_bare}
use Rattle.sp_unroll.proofs.bodies.push_first_lane.Goals as goal

pub returns-clause-ops : goal.returns-clause-ops
returns-clause-ops c =
    let counters = map plain_counter c.args.counters.now in
    first_ops (last_number counters) (in_lane c.args.order.now counters c.args.owned.now (within_of c.args.order.now c.args.w.now)) (plain_ops c.args.body.now)
    c.args.ops.now.items (plain_ops c.push_lane_body.new.ops.items) c.deref.result.now c.requires.no_ops (c.deref.ensures.value ∙ c.in_ok-none.ensures) c.in_ok-push_lane_body.ensures.ops

pub returns-clause-lanes : goal.returns-clause-lanes
returns-clause-lanes c =
    let counters = map plain_counter c.args.counters.now in
    first_bare (last_number counters) (in_lane c.args.order.now counters c.args.owned.now (within_of c.args.order.now c.args.w.now)) (plain_ops c.args.body.now)
    c.args.ops.now.items (map plain_body c.args.lanes.now.items) (map plain_body c.push_lane_body.new.lanes.items) c.deref.result.now c.requires.no_ops (ap (map plain_body) c.requires.no_lanes) (c.deref.ensures.value ∙ c.in_ok-none.ensures) c.in_ok-push_lane_body.ensures.lanes

pub returns-clause-others : goal.returns-clause-others
returns-clause-others c =
    let counters = map plain_counter c.args.counters.now in
    let body = plain_ops c.args.body.now in
    let inside = in_lane c.args.order.now counters c.args.owned.now (within_of c.args.order.now c.args.w.now) in
    let once = shared (last_number counters) c.args.owned.now body body in
    let made : map plain_body c.push_lane_body.new.lanes.items ≡ bare (lane_body (last_number counters) inside body 0 0 (nowhere body)) ∷ [] =
    first_bare (last_number counters) inside body
    c.args.ops.now.items (map plain_body c.args.lanes.now.items) (map plain_body c.push_lane_body.new.lanes.items) c.deref.result.now c.requires.no_ops (ap (map plain_body) c.requires.no_lanes) (c.deref.ensures.value ∙ c.in_ok-none.ensures) c.in_ok-push_lane_body.ensures.lanes in
    c.in_ok-others.ensures
    ∙ ap (λ l. standing once (first_places (map plain_body l))) c.deref-2.ensures.value
    ∙ ap (λ l. standing once (first_places l)) made
