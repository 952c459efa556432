use Rattle.std.proofs.Common.{◌≡◌, ◌++◌, ◌∷◌, [], length, map, arith, ap, ◌∙◌}
use Rattle.std.proofs.lemmas.Grind.{common_steps}
use Rattle.std.proofs.lemmas.List.{map-append}
use Rattle.sp_core.specs.Plain.{plain_counter, plain_ops}
use Rattle.sp_lanes.specs.Bodies.{lane_body}
use Rattle.sp_lanes.specs.Unrolled.{last_number}
use Rattle.sp_lanes.specs.Within.{Within}
use Rattle.sp_unroll.specs.Bodies.{plain_body, bare}
use Rattle.sp_unroll.specs.Entries.{within_of}
use Rattle.sp_unroll.proofs.bodies.push_lane_body.Goals as goal

pub returns-clause-ops : goal.returns-clause-ops
returns-clause-ops c =
    let out = plain_ops c.args.ops.now.items in
    let body = plain_ops c.args.body.now in
    let w = within_of c.args.order.now c.in_ok-inside.inside in
    c.in_ok-made.ensures.ops
    ∙ ap (λ k. out ++ (lane_body k (λ l. w) body c.args.lane (length out) c.args.others.now).ops) c.last_number-counter.ensures
    ∙ ap (λ (x : Within). out ++ (lane_body (last_number (map plain_counter c.args.counters.now)) (λ l. x) body c.args.lane (length out) c.args.others.now).ops) c.in_ok-inside.ensures

pub returns-clause-lanes : goal.returns-clause-lanes
returns-clause-lanes c =
    let out = plain_ops c.args.ops.now.items in
    let body = plain_ops c.args.body.now in
    let lanes = c.args.lanes.now.items in
    let w = within_of c.args.order.now c.in_ok-inside.inside in
    let e : c.push.new.self.items ≡ lanes ++ c.in_ok-made.made ∷ [] = grind (arith, common_steps) in
    ap (map plain_body) e
    ∙ map-append plain_body lanes (c.in_ok-made.made ∷ [])
    ∙ ap (λ b. map plain_body lanes ++ b ∷ []) (
    c.in_ok-made.ensures.body
    ∙ ap (λ k. bare (lane_body k (λ l. w) body c.args.lane (length out) c.args.others.now)) c.last_number-counter.ensures
    ∙ ap (λ (x : Within). bare (lane_body (last_number (map plain_counter c.args.counters.now)) (λ l. x) body c.args.lane (length out) c.args.others.now)) c.in_ok-inside.ensures)
