use Rattle.std.proofs.Common.{◌≡◌, suc, ap, sym, subst, ◌∙◌, arith}
use Rattle.sp_machine.specs.Timeline.{slots_from}
use Rattle.sp_machine.proofs.Beats.{slots_length}
use Rattle.sp_part_runs.specs.SequencesPlaces.{AreArranged, last_slot}
use Rattle.sp_stage_places.specs.Arranged.{first_slots, arranged}
use Rattle.sp_stage_members.specs.Placed.{StandOnce}
use Rattle.sp_stage_members.proofs.arranging.arrange.Goals as goal

pub returns-clause-places : goal.returns-clause-places
returns-clause-places c =
    let a = c.args in
    let t = c.loop-slot-test.false in
    let b = c.loop-slot.auto.slot-end in
    let g = c.greatest_slot-last.ensures in
    let e : c.loop-slot.slot ≡ suc (last_slot (slots_from a.slots.now a.chains.now)) = omega (arith, t, b, g) in
    c.loop-slot.invariant ∙ ap (first_slots (slots_from a.slots.now a.chains.now)) e

pub returns-clause-once : goal.returns-clause-once
returns-clause-once c =
    let a = c.args in
    subst (λ ps. StandOnce (Rattle.std.specs.Prelude.length a.slots.now) ps) (sym (returns-clause-places c))
    (subst (λ n. StandOnce n (arranged (slots_from a.slots.now a.chains.now))) (slots_length a.slots.now a.chains.now c.requires) (c.stages_stand_once.ensures (slots_from a.slots.now a.chains.now)))

pub returns-clause-arranged : goal.returns-clause-arranged
returns-clause-arranged c =
    let a = c.args in
    λ h. subst (λ ps. AreArranged ps (slots_from a.slots.now a.chains.now)) (sym (returns-clause-places c)) (c.stages_are_arranged.ensures (slots_from a.slots.now a.chains.now) h)
