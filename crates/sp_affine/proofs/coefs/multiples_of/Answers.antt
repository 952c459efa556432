use Rattle.std.proofs.Common.{◌≤◌, length, arith, rules, FitsSigned, ◌*ℤ◌, get_or, pos, ap, ◌∙◌, ◌++◌, ◌∷◌, [], ℤ, List, sym}
use Rattle.std.specs.Int.{w64}
use Rattle.std.proofs.lemmas.Int.{to_z-of_z}
use Rattle.sp_affine.proofs.Lists.{All-map_each, take-map_more, take_all-map}
use Rattle.sp_affine.proofs.coefs.multiples_of.Goals as goal

pub overflow_mul-x : goal.overflow_mul-x
overflow_mul-x c =
    let x_fits : FitsSigned w64 (get_or c.args.a.now c.loop-x.x-index (pos 0)) = search rules in
    rw (to_z-of_z w64 _ x_fits, to_z-of_z w64 _ c.ranges.by)
    (All-map_each (FitsSigned w64) (λ x. x *ℤ c.args.by) c.args.a.now c.requires.fit c.loop-x.x-index c.loop-x-test.true)

pub loop-x-preserved : goal.loop-x-preserved
loop-x-preserved c =
    let x_fits : FitsSigned w64 (get_or c.args.a.now c.loop-x.x-index (pos 0)) = search rules in
    let fits = All-map_each (FitsSigned w64) (λ x. x *ℤ c.args.by) c.args.a.now c.requires.fit c.loop-x.x-index c.loop-x-test.true in
    let items = rw (to_z-of_z w64 _ x_fits, to_z-of_z w64 _ c.ranges.by, to_z-of_z w64 _ fits) at c.in_ok-push.ensures.items in
    let put : List ℤ → List ℤ = λ z. z ++ (get_or c.args.a.now c.loop-x.x-index (pos 0) *ℤ c.args.by) ∷ [] in
    let same = to_z-of_z w64 c.args.by c.ranges.by in
    rw same (items ∙ ap put (rw same at c.loop-x.invariant) ∙ sym (take-map_more (λ x. x *ℤ c.args.by) c.args.a.now c.loop-x.x-index c.loop-x-test.true))

pub returns : goal.returns
returns c =
    let past : length c.args.a.now ≤ c.loop-x.x-index = omega arith in
    let same = to_z-of_z w64 c.args.by c.ranges.by in
    let made = rw same at c.loop-x.invariant in
    made ∙ take_all-map (λ x. x *ℤ c.args.by) c.args.a.now c.loop-x.x-index past
