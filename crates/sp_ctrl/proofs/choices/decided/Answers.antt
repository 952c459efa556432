use Rattle.std.proofs.Common.{◌&&◌, [], ap, ◌∙◌}
use Rattle.sp_gates.specs.Tested.{is_on}
use Rattle.sp_gates.proofs.Growing.{Fills-join}
use Rattle.sp_gates.proofs.Running.{runs_earlier}
use Rattle.sp_ctrl.proofs.choices.decided.Goals as goal

pub returns-clause-fills : goal.returns-clause-fills
returns-clause-fills c = Fills-join _ _ _ [] [] c.in_ok-yes.ensures.fills (Fills-join _ _ _ [] [] c.in_ok-other.ensures.fills c.in_ok-no.ensures.fills)

pub returns-clause-yes : goal.returns-clause-yes
returns-clause-yes c = λ s r. c.in_ok-yes.ensures.on s (runs_earlier _ _ s c.in_ok-other.ensures.fills.grows (runs_earlier _ _ s c.in_ok-no.ensures.fills.grows r))

pub returns-clause-no : goal.returns-clause-no
returns-clause-no c = λ s r t.
    c.in_ok-no.ensures.on s r t ∙ ap (λ b. is_on s c.args.done t && b) (c.in_ok-other.ensures.on s (runs_earlier _ _ s c.in_ok-no.ensures.fills.grows r) t)
