use Rattle.std.proofs.Common.{◌≡◌, ◌+◌, take, refl, subst, arith}
use Rattle.std.proofs.lemmas.List.{take_more}
use Rattle.std.specs.Prelude.{slice_index}
use Rattle.sp_core.specs.CoreParts.{plain_core}
use Rattle.sp_core.specs.Plain.{plain_stage_list}
use Rattle.sp_plan.specs.Plain.{plain_node_plan}
use Rattle.sp_copy_nets.specs.Table.{own_numbers, slot_numbers}
use Rattle.sp_tree_handed.specs.Owners.{first_use, renewal}
use Rattle.sp_tree_copies.specs.declared.walk.Walk.{Walk}
use Rattle.sp_tree_copies.proofs.Walking.{renewal_stands, renewal_step}
use Rattle.sp_tree_copies.proofs.loops.add_renewals.Goals as goal

pub loop-index-preserved : goal.loop-index-preserved
loop-index-preserved c =
    let i = c.loop-index.invariant in
    let owned = c.args.owned.now in
    let m = slice_index owned c.loop-index.index in
    let e = c.first_slot-slot.ensures in
    let firsts_in = c.args.turns.now.firsts.items in
    let coming_in = c.args.copies.now.coming.items in
    let next : Walk = record { names = c.loop-index.walk.names; renewed = c.push.new.self; kept = c.loop-index.walk.kept; loops = c.loop-index.walk.loops; states = c.loop-index.walk.states } in
    record {
      adds = λ firsts each.
          renewal_step (first_use (plain_core c.args.core.now) (plain_node_plan c.args.planned.now) (plain_stage_list c.args.stages.now)) firsts_in (λ x. own_numbers owned (slot_numbers coming_in x)) (take c.loop-index.index owned) (take (c.loop-index.index + 1) owned) m c.renewal_in-renewal.result c.args.walk.now c.loop-index.walk next
          (take_more owned c.loop-index.index 0 c.loop-index-test.true)
          (subst (λ x. c.renewal_in-renewal.result ≡ renewal m (slice_index firsts_in x) (own_numbers owned (slot_numbers coming_in x) m)) e
          (c.renewal_in-renewal.ensures.exact (let f = firsts m in omega (arith, e, f)) (let f = firsts m in omega (arith, e, f, each)))) c.in_ok-push.ensures.items refl refl refl refl (i.adds firsts each);
      stand = λ d t k h. renewal_stands d (plain_core c.args.core.now) c.renewal_in-renewal.result c.loop-index.walk next c.in_ok-push.ensures.items refl refl (c.renewal_in-renewal.ensures.net d t) (c.renewal_in-renewal.ensures.copy d k) (i.stand d t k h);
    }
