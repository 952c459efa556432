use Rattle.std.proofs.Common.{◌≡◌}
use Rattle.sp_machine.specs.Timeline.{slots_from}
use Rattle.sp_stage_places.specs.Arranged.{first_slots}
use Rattle.sp_stage_members.specs.Placed.{places_of}
use Rattle.sp_stage_members.proofs.arranging.arrange.Given as goal

abbrev pub invariant-loop-slot : goal.invariant-loop-slot
invariant-loop-slot l = places_of l.placed.items ≡ first_slots (slots_from l.slots l.chains) l.slot
