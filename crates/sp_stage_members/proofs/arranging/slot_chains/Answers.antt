use Rattle.std.proofs.Common.{ap, ◌∙◌, arith}
use Rattle.sp_machine.specs.Timeline.{slots_from}
use Rattle.sp_stage_places.specs.Arranged.{chains_of}
use Rattle.sp_stage_members.proofs.Planned.{at_end}
use Rattle.sp_stage_members.proofs.arranging.slot_chains.Goals as goal

pub returns : goal.returns
returns c =
    let a = c.args in
    let t = c.loop-stage-test.false in
    let b = c.loop-stage.auto.stage-end in
    let e = at_end a.slots.now a.chains.now c.loop-stage.stage c.requires (omega (arith, t, b)) in
    c.loop-stage.invariant ∙ ap (chains_of (slots_from a.slots.now a.chains.now) a.slot) e
