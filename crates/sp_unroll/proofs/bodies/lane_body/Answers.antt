use Rattle.std.proofs.Common.{◌≡◌, ◌++◌, ◌∷◌, [], ap, ◌∙◌}
use Rattle.sp_core.specs.Plain.{plain_ops}
use Rattle.sp_lanes.specs.Bodies.{Body, live_op}
use Rattle.sp_unroll.specs.Bodies.{bare}
use Rattle.sp_unroll.specs.Entries.{within_of}
use Rattle.sp_unroll.proofs.BodyLemmas.{lane_made}
use Rattle.sp_unroll.proofs.bodies.lane_body.Goals as goal

pub returns-clause-ops : goal.returns-clause-ops
returns-clause-ops c =
    let w = within_of c.args.order.now c.args.w.now in
    let body = plain_ops c.args.body.now in
    let out = plain_ops c.args.ops.now.items in
    let live = plain_ops c.push_op.new.ops.items in
    let e : live ≡ out ++ live_op c.args.counter c.args.lane c.args.lane ∷ [] = c.in_ok-mask.ensures.ops ∙ ap (λ o. out ++ o ∷ []) c.live_op.ensures in
    ap (λ (b : Body). b.ops)
    (lane_made c.args.counter w body c.args.lane c.in_ok-mask.mask out live (plain_ops c.push_lane.new.ops.items) c.in_ok-places.places.items c.args.others.now c.in_ok-mask.ensures.place e c.in_ok-places.ensures)

pub returns-clause-body : goal.returns-clause-body
returns-clause-body c =
    let w = within_of c.args.order.now c.args.w.now in
    let body = plain_ops c.args.body.now in
    let out = plain_ops c.args.ops.now.items in
    let live = plain_ops c.push_op.new.ops.items in
    let e : live ≡ out ++ live_op c.args.counter c.args.lane c.args.lane ∷ [] = c.in_ok-mask.ensures.ops ∙ ap (λ o. out ++ o ∷ []) c.live_op.ensures in
    ap bare
    (lane_made c.args.counter w body c.args.lane c.in_ok-mask.mask out live (plain_ops c.push_lane.new.ops.items) c.in_ok-places.places.items c.args.others.now c.in_ok-mask.ensures.place e c.in_ok-places.ensures)
