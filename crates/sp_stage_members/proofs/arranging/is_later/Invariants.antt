use Rattle.std.proofs.Common.{◌≡◌}
use Rattle.sp_time.specs.Beats.{slot_at}
use Rattle.sp_machine.specs.Timeline.{slots_from}
use Rattle.sp_stage_places.specs.Arranged.{is_seen}
use Rattle.sp_stage_members.proofs.arranging.is_later.Given as goal

abbrev pub invariant-loop-earlier : goal.invariant-loop-earlier
invariant-loop-earlier l = l.later ≡ is_seen (slots_from l.slots l.chains) (slot_at (slots_from l.slots l.chains) l.stage) l.earlier
