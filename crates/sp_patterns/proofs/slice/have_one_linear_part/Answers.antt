use Rattle.std.proofs.lemmas.Bool.Decides.{same_from_decides}
use Rattle.sp_affine.specs.Equality.{linear_parts_equal, Decides-linear_parts_equal}
use Rattle.sp_patterns.proofs.slice.have_one_linear_part.Goals as goal

pub returns : goal.returns
returns c = same_from_decides c.has_linear_part_of.result (linear_parts_equal c.args.f.now c.args.g.now) c.has_linear_part_of.ensures (Decides-linear_parts_equal c.args.f.now c.args.g.now)
