use Rattle.std.proofs.Common.{◌||◌, []}
use Rattle.sp_gates.specs.Tested.{is_on}
use Rattle.sp_gates.proofs.Growing.{Fills-join, IsOne-stays}
use Rattle.sp_gates.proofs.Running.{runs_earlier}
use Rattle.sp_ctrl.proofs.Causes.{by_cause}
use Rattle.sp_ctrl.proofs.choices.after_either.Goals as goal

pub after-requires-clause-one : goal.after-requires-clause-one
after-requires-clause-one c = IsOne-stays _ _ _ c.in_ok-either.ensures.fills.grows c.requires.one

pub returns-clause-fills : goal.returns-clause-fills
returns-clause-fills c = Fills-join _ _ _ [] [] c.in_ok-either.ensures.fills c.in_ok-late.ensures.fills

pub returns-clause-after : goal.returns-clause-after
returns-clause-after c = λ s r.
    by_cause (is_on s c.in_ok-late.late) (is_on s c.in_ok-either.either) (λ t. is_on s c.args.a t || is_on s c.args.b t) (c.in_ok-late.ensures.after s r)
    (c.in_ok-either.ensures.on s (runs_earlier _ _ s c.in_ok-late.ensures.fills.grows r))
