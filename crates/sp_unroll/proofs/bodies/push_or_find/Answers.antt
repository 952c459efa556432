use Rattle.std.proofs.Common.{◌∷◌, length, sym, ap, ◌∙◌}
use Rattle.sp_core.specs.Plain.{plain_op, plain_ops}
use Rattle.sp_lanes.specs.Bodies.{in_mask, at_places, lane_from}
use Rattle.sp_lanes.specs.Within.{op_in}
use Rattle.sp_unroll.specs.Bodies.{before}
use Rattle.sp_unroll.specs.Entries.{within_of}
use Rattle.sp_unroll.proofs.BodyLemmas.{step_new}
use Rattle.sp_unroll.proofs.bodies.push_or_find.Goals as goal

pub returns-in_ok-place-in-None : goal.returns-in_ok-place-in-None
returns-in_ok-place-in-None c = λ rest others.
    let w = within_of c.args.order.now c.args.w.now in
    let out = plain_ops c.args.ops.now.items in
    let op = plain_op c.args.op.now in
    let places = c.args.places.now in
    step_new w c.args.live out (in_mask c.args.live (length out) op.mem (at_places places (op_in w op))) (plain_ops c.push_in_lane.new.ops.items) c.in_ok-place-in-None.place places rest others
    c.in_ok-place-in-None.ensures.ops c.in_ok-place-in-None.ensures.place
    ∙ ap (λ o. before out (lane_from w c.args.live (length out) places (op ∷ rest) (o ∷ others))) (sym c.in-None.is)
