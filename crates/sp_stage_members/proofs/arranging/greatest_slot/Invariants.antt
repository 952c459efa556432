use Rattle.std.proofs.Common.{◌≡◌}
use Rattle.sp_time.specs.Beats.{slot_at}
use Rattle.sp_time.specs.Lists.{greatest}
use Rattle.sp_machine.specs.Timeline.{slots_from}
use Rattle.sp_stage_members.proofs.arranging.greatest_slot.Given as goal

abbrev pub invariant-loop-slot : goal.invariant-loop-slot
invariant-loop-slot l = l.last ≡ greatest (λ s. (slot_at (slots_from l.slots l.chains) s).slot) l.slot-index
