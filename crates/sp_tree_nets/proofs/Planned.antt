-- Slots and chains of one length, and how many stages there are.
use Rattle.std.proofs.Common.{◌≡◌, ℕ, suc, List, [], ◌∷◌, length, refl, ap, arith}
use Rattle.sp_core.specs.declared.node.Stage.{Stage}
use Rattle.sp_core.specs.Plain.{plain_stage_list}
use Rattle.sp_plan.specs.Validity.{stage_count}
use Rattle.sp_machine.specs.Timeline.{slots_from}

pub slots_each : (slots chains : List ℕ) → length slots ≡ length chains → length slots ≡ length (slots_from slots chains)
slots_each [] chains e = refl
slots_each (s ∷ slots) [] e = absurd (omega (arith, e))
slots_each (s ∷ slots) (c ∷ chains) e = ap suc (slots_each slots chains (omega (arith, e)))

pub stages_counted : (stages : List Stage) → stage_count (plain_stage_list stages) ≡ length stages
stages_counted [] = refl
stages_counted (s ∷ stages) = (let e = stages_counted stages in omega (arith, e))
