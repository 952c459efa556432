use Rattle.std.proofs.Common.{nat_eq, ◌&&◌, ap, sym, ◌∙◌}
use Rattle.std.specs.Prelude.{slice_index}
use Rattle.std.proofs.lemmas.Bool.{eq-eqb, ne_eqb}
use Rattle.sp_stage_members.proofs.Planned.{together}
use Rattle.sp_stage_members.proofs.arranging.are_together.Goals as goal

pub returns-then-slots-one : goal.returns-then-slots-one
returns-then-slots-one c =
    let a = c.args in
    let t = together a.slots.now a.chains.now a.one a.other c.requires.each c.requires.one_in c.requires.other_in in
    sym (t ∙ ap (λ b. b && nat_eq (slice_index a.chains.now a.one) (slice_index a.chains.now a.other)) (eq-eqb _ _ c.if-slots-one.true))

pub returns-else-slots-one : goal.returns-else-slots-one
returns-else-slots-one c =
    let a = c.args in
    let t = together a.slots.now a.chains.now a.one a.other c.requires.each c.requires.one_in c.requires.other_in in
    let n = ne_eqb _ _ c.if-slots-one.false in
    n ∙ sym (t ∙ ap (λ b. b && nat_eq (slice_index a.chains.now a.one) (slice_index a.chains.now a.other)) n)
