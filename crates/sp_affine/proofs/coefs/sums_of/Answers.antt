use Rattle.std.proofs.Common.{◌≤◌, length, arith, rules, FitsSigned, ◌+ℤ◌, get_or, pos, ap, ◌∙◌, ◌++◌, ◌∷◌, [], ℤ, List, sym}
use Rattle.std.specs.Int.{w64}
use Rattle.std.proofs.lemmas.Int.{to_z-of_z}
use Rattle.sp_affine.proofs.Lists.{All-map_zip_at, take-map_zip, take_all-map_zip}
use Rattle.sp_affine.proofs.coefs.sums_of.Goals as goal

pub overflow_add-x : goal.overflow_add-x
overflow_add-x c =
    let x_fits : FitsSigned w64 (get_or c.args.a.now c.loop-i.i (pos 0)) = search rules in
    let y_fits : FitsSigned w64 (get_or c.args.b.now c.loop-i.i (pos 0)) = search rules in
    rw (to_z-of_z w64 _ x_fits, to_z-of_z w64 _ y_fits)
    (All-map_zip_at (FitsSigned w64) (λ p. p.0 +ℤ p.1) c.args.a.now c.args.b.now c.requires.same_length c.requires.fit c.loop-i.i c.loop-i-test.true)

pub loop-i-preserved : goal.loop-i-preserved
loop-i-preserved c =
    let x_fits : FitsSigned w64 (get_or c.args.a.now c.loop-i.i (pos 0)) = search rules in
    let y_fits : FitsSigned w64 (get_or c.args.b.now c.loop-i.i (pos 0)) = search rules in
    let fits = All-map_zip_at (FitsSigned w64) (λ p. p.0 +ℤ p.1) c.args.a.now c.args.b.now c.requires.same_length c.requires.fit c.loop-i.i c.loop-i-test.true in
    let items = rw (to_z-of_z w64 _ x_fits, to_z-of_z w64 _ y_fits, to_z-of_z w64 _ fits) at c.in_ok-push.ensures.items in
    let put : List ℤ → List ℤ = λ z. z ++ (get_or c.args.a.now c.loop-i.i (pos 0) +ℤ get_or c.args.b.now c.loop-i.i (pos 0)) ∷ [] in
    items ∙ ap put c.loop-i.invariant ∙ sym (take-map_zip (λ p. p.0 +ℤ p.1) c.args.a.now c.args.b.now c.loop-i.i c.requires.same_length c.loop-i-test.true)

pub returns : goal.returns
returns c =
    let past : length c.args.a.now ≤ c.loop-i.i = omega arith in
    c.loop-i.invariant ∙ take_all-map_zip (λ p. p.0 +ℤ p.1) c.args.a.now c.args.b.now c.loop-i.i c.requires.same_length past
