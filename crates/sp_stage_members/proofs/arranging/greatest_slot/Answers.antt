use Rattle.std.proofs.Common.{ap, sym, ◌∙◌, arith}
use Rattle.std.specs.Prelude.{slice_index}
use Rattle.sp_time.specs.Beats.{slot_at}
use Rattle.sp_time.specs.Lists.{greatest}
use Rattle.sp_machine.specs.Timeline.{slots_from}
use Rattle.sp_machine.proofs.Beats.{slot_of_stage}
use Rattle.sp_stage_members.proofs.Planned.{at_end, greatest_more}
use Rattle.sp_stage_members.proofs.arranging.greatest_slot.Goals as goal
use Rattle.sp_stage_members.proofs.arranging.greatest_slot.Goals.{then-last-slot, else-last-slot}

pub loop-slot-preserved : goal.loop-slot-preserved
loop-slot-preserved c =
    let a = c.args in
    let i = c.loop-slot.slot-index in
    let x = sym (slot_of_stage a.slots.now a.chains.now i c.requires c.loop-slot-test.true) in
    greatest_more (λ s. (slot_at (slots_from a.slots.now a.chains.now) s).slot) i c.loop-slot.last (slice_index a.slots.now i) c.if-last-slot.last (elim c.if-last-slot.branch [ then-last-slot w ↦ omega arith | else-last-slot w ↦ omega arith ]) c.loop-slot.invariant x

pub returns : goal.returns
returns c =
    let a = c.args in
    let t = c.loop-slot-test.false in
    let b = c.loop-slot.auto.slot-index-end in
    let e = at_end a.slots.now a.chains.now c.loop-slot.slot-index c.requires (omega (arith, t, b)) in
    c.loop-slot.invariant ∙ ap (greatest (λ s. (slot_at (slots_from a.slots.now a.chains.now) s).slot)) e
