use Rattle.std.proofs.Common.{arith}
use Rattle.std.proofs.lemmas.Bool.Decides.{Decides-at}
use Rattle.sp_affine.specs.Equality.{Decides-linear_parts_equal}
use Rattle.sp_affine.proofs.form.Form.has_linear_part_of.Goals as goal

pub returns-then-eq : goal.returns-then-eq
returns-then-eq c = Decides-at _ _ (grind arith) (Decides-linear_parts_equal c.args.self.now c.args.other.now)

pub returns-else-eq : goal.returns-else-eq
returns-else-eq c = Decides-at _ _ (grind arith) (Decides-linear_parts_equal c.args.self.now c.args.other.now)
