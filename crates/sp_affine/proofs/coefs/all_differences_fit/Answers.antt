use Rattle.std.proofs.Common.{◌<◌, arith, rules, FitsSigned, ◌-ℤ◌, refl, get_or, pos}
use Rattle.std.specs.Int.{w64}
use Rattle.std.proofs.lemmas.Int.{to_z-of_z}
use Rattle.sp_affine.proofs.Checked.{refused}
use Rattle.sp_affine.proofs.Lists.{All-map_zip, All-map_zip_at}
use Rattle.sp_affine.proofs.coefs.all_differences_fit.Goals as goal

pub returns-then-is_none : goal.returns-then-is_none
returns-then-is_none c =
    let x_fits : FitsSigned w64 (get_or c.args.a.now c.loop-i.i (pos 0)) = search rules in
    let y_fits : FitsSigned w64 (get_or c.args.b.now c.loop-i.i (pos 0)) = search rules in
    let checked = rw (to_z-of_z w64 _ x_fits, to_z-of_z w64 _ y_fits) at c.checked_sub.ensures in (
      λ h. cc,
      λ all. absurd (refused _ _ _ _ checked c.is_none.ensures c.if-is_none.true
          (All-map_zip_at (FitsSigned w64) (λ p. p.0 -ℤ p.1) c.args.a.now c.args.b.now c.requires all c.loop-i.i c.loop-i-test.true)),
    )

pub returns : goal.returns
returns c = (
  λ h. All-map_zip (FitsSigned w64) (λ p. p.0 -ℤ p.1) c.args.a.now c.args.b.now c.requires
      (λ k below. let inside : k < c.loop-i.i = omega arith in c.loop-i.invariant k inside),
  λ h. refl,
)
