use Rattle.std.proofs.Common.{ap, ◌∙◌, arith}
use Rattle.sp_time.specs.Beats.{slot_at}
use Rattle.sp_machine.specs.Timeline.{slots_from}
use Rattle.sp_part_runs.specs.SequencesPlaces.{stages_in}
use Rattle.sp_stage_members.proofs.Planned.{at_end}
use Rattle.sp_stage_members.proofs.arranging.chain_with.Goals as goal

pub returns : goal.returns
returns c =
    let a = c.args in
    let t = c.loop-number-test.false in
    let b = c.loop-number.auto.number-end in
    let e = at_end a.slots.now a.chains.now c.loop-number.number c.requires.each (omega (arith, t, b)) in
    c.loop-number.invariant ∙ ap (stages_in (slots_from a.slots.now a.chains.now) (slot_at (slots_from a.slots.now a.chains.now) a.stage)) e
