use Rattle.std.proofs.Common.{◌≡◌, length, arith, sym, ◌∙◌, ap, subst}
use Rattle.sp_machine.specs.Timeline.{slot_numbers, slots_of}
use Rattle.sp_plan.specs.Plain.{plain_node_plan}
use Rattle.sp_stage_members.specs.Placed.{StandOnce, places_of}
use Rattle.sp_tree_nets.proofs.Planned.{slots_each}
use Rattle.sp_tree_nets.proofs.loops.stage_places.Goals as goal

pub returns-in_ok-placed-in-Outer-clause-once : goal.returns-in_ok-placed-in-Outer-clause-once
returns-in_ok-placed-in-Outer-clause-once c =
    let same : length c.in-Outer.slots.items ≡ length c.in-Outer.chains.items = (let a = c.len.ensures in let b = c.len-in-Outer.ensures in let v = c.in-Outer.slots.ok.0 in let w = c.in-Outer.chains.ok.0 in let f = c.if-len.false in omega (arith, a, b, v, w, f)) in
    subst (λ n. StandOnce n (places_of c.in_ok-placed-in-Outer.placed.items))
    (ap (λ xs. length xs) c.deref.ensures.value ∙ slots_each c.in-Outer.slots.items c.in-Outer.chains.items same ∙ ap (λ p. length (slots_of (plain_node_plan p))) (sym c.in-Outer.is)) c.in_ok-placed-in-Outer.ensures.once

pub returns-in_ok-placed-in-Outer-clause-each : goal.returns-in_ok-placed-in-Outer-clause-each
returns-in_ok-placed-in-Outer-clause-each c =
    let same : length c.in-Outer.slots.items ≡ length c.in-Outer.chains.items = (let a = c.len.ensures in let b = c.len-in-Outer.ensures in let v = c.in-Outer.slots.ok.0 in let w = c.in-Outer.chains.ok.0 in let f = c.if-len.false in omega (arith, a, b, v, w, f)) in
    ap (λ p. length (slot_numbers (plain_node_plan p))) c.in-Outer.is ∙ slots_each c.in-Outer.slots.items c.in-Outer.chains.items same ∙ ap (λ p. length (slots_of (plain_node_plan p))) (sym c.in-Outer.is)
