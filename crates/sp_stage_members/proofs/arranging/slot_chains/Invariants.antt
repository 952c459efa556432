use Rattle.std.proofs.Common.{◌≡◌}
use Rattle.sp_machine.specs.Timeline.{slots_from}
use Rattle.sp_stage_places.specs.Arranged.{chains_of}
use Rattle.sp_stage_members.specs.Placed.{chains_in}
use Rattle.sp_stage_members.proofs.arranging.slot_chains.Given as goal

abbrev pub invariant-loop-stage : goal.invariant-loop-stage
invariant-loop-stage l = chains_in l.found.items ≡ chains_of (slots_from l.slots l.chains) l.slot l.stage
