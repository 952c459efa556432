use Rattle.std.proofs.lemmas.Bool.Decides.{same_from_decides}
use Rattle.sp_affine.specs.Equality.{Decides-linear_parts_equal}
use Rattle.sp_serving.proofs.forms.have_one_part.Goals as goal

pub returns : goal.returns
returns c = same_from_decides _ _ c.has_linear_part_of.ensures (Decides-linear_parts_equal c.args.f.now c.args.g.now)
