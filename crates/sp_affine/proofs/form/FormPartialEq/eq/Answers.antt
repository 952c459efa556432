use Rattle.std.proofs.Common.{arith}
use Rattle.std.proofs.lemmas.Bool.Decides.{Decides-at}
use Rattle.sp_affine.specs.Equality.{Decides-forms_equal}
use Rattle.sp_affine.proofs.form.FormPartialEq.eq.Goals as goal

pub returns-then-self-other-clause-same : goal.returns-then-self-other-clause-same
returns-then-self-other-clause-same c = Decides-at _ _ (grind arith) (Decides-forms_equal c.args.self.now c.args.other.now)

pub returns-else-eq-clause-same : goal.returns-else-eq-clause-same
returns-else-eq-clause-same c = Decides-at _ _ (grind arith) (Decides-forms_equal c.args.self.now c.args.other.now)
