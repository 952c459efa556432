use Rattle.std.proofs.Common.{FitsSigned, rules, ◌∙◌}
use Rattle.std.specs.Int.{w32, w64}
use Rattle.std.proofs.lemmas.Int.{to_z-of_z}
use Rattle.sp_meets.proofs.Narrow.{fits_int_decides, narrowed}
use Rattle.sp_meets.proofs.range.narrow.Goals as goal

pub returns : goal.returns
returns c =
    let fits : FitsSigned w64 c.args.z.now = search rules in
    c.ok.ensures.value ∙ narrowed w32 c.try_from.result c.args.z.now _ _ (fits_int_decides c.args.z.now) (to_z-of_z w64 _ fits) c.try_from.ensures
