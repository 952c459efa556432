use Rattle.std.proofs.Common.{◌≡◌, ◌++◌, ◌+◌, ◌≤◌, ◌<◌, ◌∷◌, [], min, drop, length, arith, sym, ap, ◌∙◌}
use Rattle.std.proofs.lemmas.Grind.{common_steps}
use Rattle.std.proofs.lemmas.List.{drop_more}
use Rattle.sp_core.specs.Plain.{plain_ops}
use Rattle.sp_lanes.specs.Bodies.{lane_from}
use Rattle.sp_unroll.specs.Bodies.{before}
use Rattle.sp_unroll.specs.Entries.{within_of}
use Rattle.sp_unroll.proofs.BodyLemmas.{lane_step, lane_done, end_of_lane}
use Rattle.sp_unroll.proofs.bodies.push_lane.Goals as goal

pub loop-i-preserved : goal.loop-i-preserved
loop-i-preserved c =
    let w = within_of c.args.order.now c.args.w.now in
    let live = c.args.live in
    let body = c.args.body.now in
    let others = c.args.others.now in
    let i = c.loop-i.i in
    let out = plain_ops c.loop-i.ops.items in
    let all = plain_ops c.push_or_find.new.ops.items in
    let x = c.index-body-i.result in
    let seen = c.deref.result.now in
    let lt : i < length body = omega (arith, c.loop-i-test.true, c.min-n.ensures) in
    let lt2 : i < length others = omega (arith, c.loop-i-test.true, c.min-n.ensures) in
    let d : drop i body ≡ x ∷ drop (i + 1) body = drop_more body i x lt ∙ ap (λ y. y ∷ drop (i + 1) body) (sym c.index-body-i.is) in
    let e : c.push.new.self.items ≡ seen ++ c.in_ok-place.place ∷ [] = grind (arith, common_steps) in
    ap (λ p. before all (lane_from w live (length all) p (plain_ops (drop (i + 1) body)) (drop (i + 1) others))) e
    ∙ lane_step w live all out seen (seen ++ c.in_ok-place.place ∷ []) body x others _ i d (drop_more others i _ lt2) c.in_ok-place.ensures
    ∙ ap (λ p. before out (lane_from w live (length out) p (plain_ops (drop i body)) (drop i others))) c.deref.ensures.value
    ∙ c.loop-i.invariant

pub returns : goal.returns
returns c =
    let w = within_of c.args.order.now c.args.w.now in
    let live = c.args.live in
    let out = plain_ops c.loop-i.ops.items in
    let places = c.loop-i.places.items in
    let h : min (length c.args.body.now) (length c.args.others.now) ≤ c.loop-i.i = omega (arith, c.loop-i-test.false, c.min-n.ensures) in
    sym (end_of_lane w live out places) ∙ ap (before out) (sym (lane_done w live (length out) places c.args.body.now c.args.others.now c.loop-i.i h)) ∙ c.loop-i.invariant
