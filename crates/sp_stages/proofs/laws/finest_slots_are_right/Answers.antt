use Rattle.sp_plan.specs.Slots.{are_slots_right, are_held}
use Rattle.sp_stages.proofs.Below.{and_both}
use Rattle.sp_stages.proofs.laws.finest_slots_are_right.Goals as goal

pub returns : goal.returns
returns c = λ core meets counters style owned runs slots chains h.
    and_both (are_slots_right runs slots chains counters style) (are_held runs slots chains core owned counters meets) h.may_be.right h.may_be.held
