use Rattle.std.proofs.Common.{◌≡◌, ◌++◌, ◌+◌, ◌≤◌, ◌<◌, ◌∷◌, [], false, min, get_or, drop, length, append_assoc, append-nil, arith, sym, ap, ◌∙◌}
use Rattle.std.proofs.lemmas.Grind.{common_steps}
use Rattle.std.proofs.lemmas.List.{drop_more}
use Rattle.sp_lanes.specs.Bodies.{standing}
use Rattle.sp_unroll.proofs.BodyLemmas.{standing_done}
use Rattle.sp_unroll.proofs.bodies.standing.Goals as goal

pub loop-i-preserved : goal.loop-i-preserved
loop-i-preserved c =
    let shared = c.args.shared.now in
    let places = c.args.places.now in
    let others = c.loop-i.others.items in
    let i = c.loop-i.i in
    let left = standing (drop (i + 1) shared) (drop (i + 1) places) in
    let lt : i < length shared = omega (arith, c.loop-i-test.true, c.min-n.ensures) in
    let lt2 : i < length places = omega (arith, c.loop-i-test.true, c.min-n.ensures) in
    let e : c.push.new.self.items ≡ others ++ c.standing_at.result ∷ [] = grind (arith, common_steps) in
    ap (λ x. x ++ left) e
    ∙ append_assoc others (c.standing_at.result ∷ []) left
    ∙ ap (λ x. others ++ x) (sym (ap (λ l. standing l (drop i places)) (drop_more shared i false lt) ∙ ap (λ l. standing (get_or shared i false ∷ drop (i + 1) shared) l) (drop_more places i 0 lt2) ∙ c.standing_at.ensures (drop (i + 1) shared) (drop (i + 1) places)))
    ∙ c.loop-i.invariant

pub returns : goal.returns
returns c =
    let others = c.loop-i.others.items in
    let h : min (length c.args.shared.now) (length c.args.places.now) ≤ c.loop-i.i = omega (arith, c.loop-i-test.false, c.min-n.ensures) in
    sym (append-nil others) ∙ ap (λ x. others ++ x) (sym (standing_done c.args.shared.now c.args.places.now c.loop-i.i h)) ∙ c.loop-i.invariant
