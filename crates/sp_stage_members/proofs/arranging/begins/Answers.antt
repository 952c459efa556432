use Rattle.std.proofs.Common.{◌&&◌, not, ap, ap₂, sym, ◌∙◌}
use Rattle.std.proofs.lemmas.Bool.{eq-eqb, ne_eqb}
use Rattle.sp_stage_places.specs.Arranged.{is_seen}
use Rattle.sp_time.specs.Beats.{slot_at}
use Rattle.sp_machine.specs.Timeline.{slots_from}
use Rattle.sp_stage_members.proofs.Planned.{begun}
use Rattle.sp_stage_members.proofs.arranging.begins.Goals as goal

pub returns-then-slots-stage : goal.returns-then-slots-stage
returns-then-slots-stage c =
    let a = c.args in
    let b = begun a.slots.now a.chains.now a.slot a.stage c.requires.each c.requires.stage_in in
    sym (b ∙ ap₂ (λ x y. x && not y) (eq-eqb _ _ c.if-slots-stage.true) (sym c.is_later.ensures))

pub returns-else-slots-stage : goal.returns-else-slots-stage
returns-else-slots-stage c =
    let a = c.args in
    let b = begun a.slots.now a.chains.now a.slot a.stage c.requires.each c.requires.stage_in in
    let n = ne_eqb _ _ c.if-slots-stage.false in
    n ∙ sym (b ∙ ap (λ x. x && not (is_seen (slots_from a.slots.now a.chains.now) (slot_at (slots_from a.slots.now a.chains.now) a.stage) a.stage)) n)
