use Rattle.std.proofs.Common.{◌≡◌, ◌*◌, ◌^◌, ◌≤◌, ap, not, ℤ, pos, ◌*ℤ◌, unsigned_abs, FitsSigned, rules}
use Rattle.std.specs.Int.{w128}
use Rattle.std.specs.Prelude.{Option, Some}
use Rattle.std.proofs.lemmas.Int.{to_z-of_z}
use Rattle.sp_deps.specs.Bounds.{IsEndWithin}
use Rattle.sp_deps.proofs.Clamped.{above_cut}
use Rattle.sp_deps.proofs.value.is_up_to_opposite.Goals as goal

within_some : (e : Option ℤ) (x : ℤ) → e ≡ Some x → IsEndWithin 2050 e → unsigned_abs x ≤ 2050 * 2 ^ 115
within_some e x is h = rw is at h

pub returns-in-Some : goal.returns-in-Some
returns-in-Some c =
    let o : FitsSigned w128 c.opposite_of_steps.result = search rules in
    let s : FitsSigned w128 c.sum.result = search rules in
    let x : FitsSigned w128 c.in-Some.x = search rules in
    let small = within_some _ _ c.in-Some.is c.requires.within in
    rw (to_z-of_z w128 _ o, to_z-of_z w128 _ s, c.opposite_of_steps.ensures, c.sum.ensures, to_z-of_z w128 _ x, c.in-Some.is)
    (ap not (above_cut _ _ (c.args.step.now *ℤ pos c.args.t) small c.requires.start))
