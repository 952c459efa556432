use Rattle.std.proofs.Common.{◌+◌, refl, sym, subst}
use Rattle.std.proofs.lemmas.Bool.{ltb-true}
use Rattle.sp_core.specs.CoreParts.{plain_core}
use Rattle.sp_core.specs.Plain.{plain_stage_list}
use Rattle.sp_plan.specs.Plain.{plain_node_plan}
use Rattle.sp_tree_handed.specs.Standing.{TurnsStand}
use Rattle.sp_tree_copies.specs.declared.walk.Walk.{Walk}
use Rattle.sp_tree_copies.specs.Loops.{CopiesStand}
use Rattle.sp_tree_copies.proofs.Nexting.{loops_apart, renews_next}
use Rattle.sp_tree_copies.proofs.loops.renew_next.Goals as goal

pub returns-clause-renews : goal.returns-clause-renews
returns-clause-renews c =
    let b = c.add_renewals.new.walk in
    let next : Walk = record { names = b.names; renewed = b.renewed; kept = b.kept; loops = c.args.walk.now.loops + 1; states = b.states } in
    renews_next (plain_core c.args.core.now) (plain_node_plan c.args.planned.now) (plain_stage_list c.args.stages.now) c.args.owned.now c.args.turns.now c.args.loops.now c.in-Some.own.now c.in-Some-get.copies.now c.args.walk.now b next c.in-Some.ensures.lookup.1 c.in-Some-get.ensures.lookup.1
    c.in_ok-add_renewals.ensures.adds refl refl refl refl refl

pub returns-clause-stand : goal.returns-clause-stand
returns-clause-stand c kept around d all stand h =
    let b = c.add_renewals.new.walk in
    let next : Walk = record { names = b.names; renewed = b.renewed; kept = b.kept; loops = c.args.walk.now.loops + 1; states = b.states } in
    loops_apart d (plain_core c.args.core.now) b next refl refl refl
    (c.in_ok-add_renewals.ensures.stand d (subst (TurnsStand d) (sym c.in-Some.ensures.lookup.1) (all.handed.turn c.args.walk.now.loops c.in-Some.own.now (ltb-true _ _ (sym c.in-Some.ensures.lookup.0))))
    (subst (CopiesStand d) (sym c.in-Some-get.ensures.lookup.1) (all.copies c.args.walk.now.loops c.in-Some-get.copies.now (ltb-true _ _ (sym c.in-Some-get.ensures.lookup.0)))) h)
