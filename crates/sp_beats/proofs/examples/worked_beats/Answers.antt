use Rattle.std.proofs.Common.{refl}
use Rattle.sp_beats.specs.Beats.{has_group}
use Rattle.sp_beats.proofs.examples.worked_beats.Goals as goal

pub returns : goal.returns
unfolding has_group
returns c = record { first_gets = refl; first_has = refl; second_gets = refl; second_has = refl; goes_on = λ a b. refl; ends = λ a b. refl }
