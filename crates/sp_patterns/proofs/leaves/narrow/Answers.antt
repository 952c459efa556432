use Rattle.std.proofs.Common.{FitsSigned, rules, ◌∙◌}
use Rattle.std.specs.Int.{w64, w128}
use Rattle.std.proofs.lemmas.Int.{to_z-of_z}
use Rattle.sp_patterns.proofs.Held.{fits_decides, narrowed}
use Rattle.sp_patterns.proofs.leaves.narrow.Goals as goal

pub returns : goal.returns
returns c =
    let fits : FitsSigned w128 c.args.z.now = search rules in
    c.ok.ensures.value ∙ narrowed w64 c.try_from.result c.args.z.now _ _ (fits_decides c.args.z.now) (to_z-of_z w128 _ fits) c.try_from.ensures
