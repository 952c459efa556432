use Rattle.std.proofs.Common.{◌≡◌}
use Rattle.sp_time.specs.Beats.{slot_at}
use Rattle.sp_machine.specs.Timeline.{slots_from}
use Rattle.sp_part_runs.specs.SequencesPlaces.{stages_in}
use Rattle.sp_stage_members.proofs.arranging.chain_with.Given as goal

abbrev pub invariant-loop-number : goal.invariant-loop-number
invariant-loop-number l = l.stages.items ≡ stages_in (slots_from l.slots l.chains) (slot_at (slots_from l.slots l.chains) l.stage) l.number
