use Rattle.std.proofs.Common.{◌<◌, arith, rules, FitsSigned, ◌*ℤ◌, refl, get_or, pos, below_more}
use Rattle.std.specs.Int.{w64}
use Rattle.std.proofs.lemmas.Int.{to_z-of_z}
use Rattle.sp_affine.proofs.Checked.{refused, allowed}
use Rattle.sp_affine.proofs.Lists.{All-map_at, All-map_each}
use Rattle.sp_affine.proofs.coefs.all_multiples_fit.Goals as goal

pub returns-then-is_none : goal.returns-then-is_none
returns-then-is_none c =
    let x_fits : FitsSigned w64 (get_or c.args.a.now c.loop-x.x-index (pos 0)) = search rules in
    let checked = rw (to_z-of_z w64 _ x_fits, to_z-of_z w64 _ c.ranges.by) at c.checked_mul.ensures in (
      λ h. cc,
      λ all. absurd (refused _ _ _ _ checked c.is_none.ensures c.if-is_none.true
          (All-map_each (FitsSigned w64) (λ x. x *ℤ c.args.by) c.args.a.now all c.loop-x.x-index c.loop-x-test.true)),
    )

pub loop-x-preserved : goal.loop-x-preserved
loop-x-preserved c =
    let x_fits : FitsSigned w64 (get_or c.args.a.now c.loop-x.x-index (pos 0)) = search rules in
    let checked = rw (to_z-of_z w64 _ x_fits, to_z-of_z w64 _ c.ranges.by) at c.checked_mul.ensures in
    let same = to_z-of_z w64 c.args.by c.ranges.by in
    simp same (below_more _ _ (simp same at c.loop-x.invariant) (allowed _ _ _ _ checked c.is_none.ensures c.if-is_none.false))

pub returns : goal.returns
returns c =
    let same = to_z-of_z w64 c.args.by c.ranges.by in (
      λ h. All-map_at (FitsSigned w64) (λ x. x *ℤ c.args.by) c.args.a.now
          (λ k below. let inside : k < c.loop-x.x-index = omega arith in rw same at (c.loop-x.invariant k inside)),
      λ h. refl,
    )
