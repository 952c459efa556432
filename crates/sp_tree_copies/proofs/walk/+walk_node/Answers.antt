use Rattle.std.proofs.Common.{◌≡◌, ◌+◌, ◌≤◌, ◌∷◌, ◌^◌, drop, length, map, rules, slice_index_or, true, sym, ap, subst, ◌∙◌, arith}
use Rattle.std.proofs.lemmas.List.{drop_more, length-map}
use Rattle.sp_core.specs.declared.node.Node.{the_lemmas}
use Rattle.sp_core.specs.CoreParts.{plain_core}
use Rattle.sp_core.specs.Declarations.{is_among}
use Rattle.sp_core.specs.Invariant.{owned_in, owned_in_stages}
use Rattle.sp_core.specs.Numbering.{node_count}
use Rattle.sp_core.specs.Plain.{plain_counter, plain_node, plain_ops, plain_stage_list}
use Rattle.sp_plan.specs.Plain.{plain_node_plan, plain_plan}
use Rattle.sp_plan.proofs.RunLists.{drop_past}
use Rattle.sp_plan.proofs.Trees.{plain_outer}
use Rattle.sp_copy_nets.specs.Numbers.{StandNumbers}
use Rattle.sp_copy_nets.specs.Table.{numbers_at}
use Rattle.sp_tree_copies.specs.Walks.{inside}
use Rattle.sp_tree_copies.proofs.Asking.{at_among, first_can, machine_can, on_ok, second_can}
use Rattle.sp_tree_copies.proofs.Nodes.{among_left, branch_walks, machine_walks}
use Rattle.sp_tree_copies.proofs.Stepping.{loop_begins, loop_ends, loop_goes, stage_can}
use Rattle.sp_tree_copies.proofs.Tables.{nets_stand}
use Rattle.sp_tree_copies.proofs.walk.+walk_node.Goals as goal

pub loop-stage-init : goal.loop-stage-init
loop-stage-init t c =
    let core = plain_core c.args.core.now in
    let few : c.args.index + node_count (plain_node c.args.node.now) ≤ length (plain_plan c.args.plan.now).nodes = (let h = c.requires.planned in let m = length-map c.args.plan.now.nodes.items plain_node_plan in omega (arith, h, m)) in
    loop_begins core (plain_plan c.args.plan.now) c.args.turns.now c.args.kept.now c.args.loops.now (plain_node c.args.node.now) (map plain_counter c.in-Outer.counters.items) (map plain_counter c.deref-in-Outer.result.now) c.in-Outer.style c.in-Outer.owned.items c.deref-in-Outer-3.result.now c.in-Outer.stages.items c.deref-stage-items.result.now
    c.deref-in-Outer-2.result.now c.args.index (c.args.index + 1) c.args.around.now (plain_node_plan c.planned-decided.result.now) c.args.walk.now c.name_bounds-in-Outer.new.walk c.renew_next.new.walk
    (ap plain_node c.in-Outer.is ∙ plain_outer c.in-Outer.counters c.in-Outer.style c.in-Outer.owned c.in-Outer.stages) (ap (map plain_counter) c.deref-in-Outer.ensures.value) c.deref-in-Outer-3.ensures.value c.deref-stage-items.ensures.value c.deref-in-Outer-2.ensures.value c.planned-decided.ensures (omega arith) c.requires.owned
    c.requires.nodes few c.in_ok-name_bounds-in-Outer.ensures.adds (c.in_ok-name_bounds-in-Outer.ensures.stand core c.args.turns.now c.args.kept.now c.args.loops.now) c.in_ok-renew_next-in-Outer.ensures.renews (c.in_ok-renew_next-in-Outer.ensures.stand c.args.kept.now c.args.around.now)

pub loop-stage-preserved : goal.loop-stage-preserved
loop-stage-preserved t c =
    let items = c.deref-stage-items.result.now in
    let i = c.loop-stage.stage-index in
    let cut = drop_more items i c.stage-item.result c.loop-stage-test.true ∙ ap (λ x. x ∷ drop (i + 1) items) (sym c.stage-item.is) in
    let table = c.deref-in-loop-stage-2.ensures.value in
    loop_goes (plain_core c.args.core.now) (plain_plan c.args.plan.now) c.args.turns.now c.args.kept.now c.args.loops.now (plain_node c.args.node.now) c.args.index c.args.around.now (plain_node_plan c.planned-decided.result.now) c.in-Outer.owned.items c.args.walk.now.loops (drop i items) (drop (i + 1) items) c.stage-item.result i
    c.loop-stage.number c.loop-stage.second c.count_nodes-second.result c.deref-in-loop-stage-2.result.now c.stage_slot-slot.result c.loop_nets-nets.result.now c.args.walk.now c.loop-stage.walk c.walk_node.new.walk cut c.loop-stage.invariant c.stage_slot-slot.ensures c.loop_nets-nets.ensures
    (λ m. ap (λ ts. numbers_at ts m) table ∙ c.in_ok-table-in-Outer.ensures.numbers m ∙ ap (λ os. inside (numbers_at c.args.around.now) os c.loop_nets-nets.result.now m) c.deref-in-loop-stage.ensures.value) c.count_nodes-second.ensures c.in_ok-walk_node-in-Outer.ensures.walks
    (λ d all stand h. c.in_ok-walk_node-in-Outer.ensures.stand d all
    (subst (StandNumbers d) (sym table) (c.in_ok-table-in-Outer.ensures.stand d stand (subst (StandNumbers d) (sym c.loop_nets-nets.ensures) (nets_stand d c.args.loops.now c.args.walk.now.loops c.stage_slot-slot.result all.copies)))) h)

pub inside_slot-requires : goal.inside_slot-requires
inside_slot-requires t c k d lt =
    let is = ap plain_node c.in-Outer.is ∙ plain_outer c.in-Outer.counters c.in-Outer.style c.in-Outer.owned c.in-Outer.stages in
    let owned = c.deref-in-loop-stage.result.now in
    let m = slice_index_or owned k d in
    c.requires.owned m (subst (λ v. is_among m (owned_in v) ≡ true) (sym is)
    (among_left m c.in-Outer.owned.items (owned_in_stages (plain_stage_list c.in-Outer.stages.items)) (subst (λ os. is_among m os ≡ true) c.deref-in-loop-stage.ensures.value (at_among owned k d lt))))

pub walk_node-requires : goal.walk_node-requires
walk_node-requires t c =
    let items = c.deref-stage-items.result.now in
    let i = c.loop-stage.stage-index in
    let cut = drop_more items i c.stage-item.result c.loop-stage-test.true ∙ ap (λ x. x ∷ drop (i + 1) items) (sym c.stage-item.is) in
    let can = stage_can (plain_core c.args.core.now) (plain_plan c.args.plan.now) c.args.turns.now c.args.kept.now c.args.loops.now (plain_node c.args.node.now) c.args.index c.args.around.now (plain_node_plan c.planned-decided.result.now) c.in-Outer.owned.items c.args.walk.now.loops (drop i items) (drop (i + 1) items) c.stage-item.result
    i c.loop-stage.number c.loop-stage.second c.args.walk.now c.loop-stage.walk (length c.deref-in-loop-stage-2.result.now) cut (ap (λ xs. length xs) c.deref-in-loop-stage-2.ensures.value ∙ c.in_ok-table-in-Outer.ensures.long) c.loop-stage.invariant in
    (search (rules, the_lemmas), (can.0, (can.1, (let h = can.2 in let m = length-map c.args.plan.now.nodes.items plain_node_plan in omega (arith, h, m)))))

pub walk_node-requires-in-Fsm : goal.walk_node-requires-in-Fsm
walk_node-requires-in-Fsm t c =
    let can = machine_can (plain_node c.args.node.now) (plain_ops c.in-Fsm.start.items) c.in-Fsm.state (plain_ops c.in-Fsm.test.items) (plain_node c.in-Fsm.body.value) (plain_node c.deref-in-Fsm-3.result.now) (plain_ops c.in-Fsm.next.items) (length c.args.around.now) (2 ^ 30) (length c.args.plan.now.nodes.items) c.args.index
    (ap plain_node c.in-Fsm.is) (ap plain_node c.deref-in-Fsm-3.ensures) c.requires.owned c.requires.nodes c.requires.planned in
    (search (rules, the_lemmas), (can.0, (can.1, can.2)))

pub walk_node-requires-in-Branch : goal.walk_node-requires-in-Branch
walk_node-requires-in-Branch t c =
    let can = first_can (plain_node c.args.node.now) (plain_ops c.in-Branch.test.items) (plain_node c.in-Branch.yes.value) (plain_node c.in-Branch.no.value) (plain_node c.deref-in-Branch-2.result.now) (length c.args.around.now) (2 ^ 30) (length c.args.plan.now.nodes.items) c.args.index (ap plain_node c.in-Branch.is)
    (ap plain_node c.deref-in-Branch-2.ensures) c.requires.owned c.requires.nodes c.requires.planned in
    (search (rules, the_lemmas), (can.0, (can.1, can.2)))

pub walk_node-requires-in-Branch-2 : goal.walk_node-requires-in-Branch-2
walk_node-requires-in-Branch-2 t c =
    let can = second_can (plain_node c.args.node.now) (plain_ops c.in-Branch.test.items) (plain_node c.in-Branch.yes.value) (plain_node c.in-Branch.no.value) (plain_node c.deref-in-Branch-4.result.now) (length c.args.around.now) (2 ^ 30) (length c.args.plan.now.nodes.items) c.args.index c.count_nodes.result (ap plain_node c.in-Branch.is)
    (ap plain_node c.deref-in-Branch-4.ensures) (c.count_nodes.ensures ∙ ap (λ x. node_count (plain_node x)) c.deref-in-Branch-3.ensures) c.requires.owned c.requires.nodes c.requires.planned in
    (search (rules, the_lemmas), (can.0, (can.1, can.2)))

pub returns-in_ok-name_bounds-in-Inner-clause-stand : goal.returns-in_ok-name_bounds-in-Inner-clause-stand
returns-in_ok-name_bounds-in-Inner-clause-stand t c =
    on_ok c.name_ops.result (λ f d all stand h. f (plain_core c.args.core.now) c.args.turns.now c.args.kept.now c.args.loops.now d all stand (c.in_ok-name_bounds-in-Inner.ensures.stand (plain_core c.args.core.now) c.args.turns.now c.args.kept.now c.args.loops.now d all stand h)) c.name_ops.ensures.stand

pub returns-in-Load-clause-stand : goal.returns-in-Load-clause-stand
returns-in-Load-clause-stand t c =
    on_ok c.name_transfer.result (λ f d all stand h. f (plain_core c.args.core.now) c.args.turns.now c.args.kept.now c.args.loops.now d all stand h) c.name_transfer.ensures.stand

pub returns-in-Store-clause-stand : goal.returns-in-Store-clause-stand
returns-in-Store-clause-stand t c =
    on_ok c.name_transfer-in-Store.result (λ f d all stand h. f (plain_core c.args.core.now) c.args.turns.now c.args.kept.now c.args.loops.now d all stand h) c.name_transfer-in-Store.ensures.stand

pub returns-after-loop-stage-clause-walks : goal.returns-after-loop-stage-clause-walks
returns-after-loop-stage-clause-walks t c =
    let items = c.deref-stage-items.result.now in
    let i = c.loop-stage.stage-index in
    loop_ends (plain_core c.args.core.now) (plain_plan c.args.plan.now) c.args.turns.now c.args.kept.now c.args.loops.now (plain_node c.args.node.now) c.args.index c.args.around.now (plain_node_plan c.planned-decided.result.now) c.in-Outer.owned.items c.args.walk.now.loops (drop i items) i c.loop-stage.number c.loop-stage.second c.args.walk.now
    c.loop-stage.walk (drop_past items i c.loop-stage-test.false) c.loop-stage.invariant

pub returns-in_ok-walk_node-in-Fsm-clause-walks : goal.returns-in_ok-walk_node-in-Fsm-clause-walks
returns-in_ok-walk_node-in-Fsm-clause-walks t c =
    on_ok c.name_ops-in-Fsm-3.result
    (machine_walks (plain_core c.args.core.now) (plain_plan c.args.plan.now) c.args.turns.now c.args.kept.now c.args.loops.now (plain_node c.args.node.now) (plain_ops c.in-Fsm.start.items) (plain_ops c.deref-in-Fsm.result.now) c.in-Fsm.state (plain_ops c.in-Fsm.test.items) (plain_ops c.deref-in-Fsm-2.result.now) (plain_node c.in-Fsm.body.value)
    (plain_node c.deref-in-Fsm-3.result.now) (plain_ops c.in-Fsm.next.items) (plain_ops c.deref-in-Fsm-4.result.now) c.args.index (c.args.index + 1) (numbers_at c.args.around.now) c.args.walk.now c.name_ops-in-Fsm.new.walk c.name_ops-in-Fsm-2.new.walk c.keep_next.new.walk c.keep_next-in-Fsm.new.walk c.walk_node-in-Fsm.new.walk
    c.name_ops-in-Fsm-3.new.walk (ap plain_node c.in-Fsm.is) (ap plain_ops c.deref-in-Fsm.ensures.value) (ap plain_ops c.deref-in-Fsm-2.ensures.value) (ap plain_node c.deref-in-Fsm-3.ensures) (ap plain_ops c.deref-in-Fsm-4.ensures.value) (omega arith) c.in_ok-name_ops-in-Fsm.ensures.adds c.in_ok-name_ops-in-Fsm-2.ensures.adds
    c.in_ok-keep_next-in-Fsm.ensures.keeps c.in_ok-keep_next-in-Fsm-2.ensures.keeps c.in_ok-walk_node-in-Fsm.ensures.walks)
    c.name_ops-in-Fsm-3.ensures.adds

pub returns-in_ok-walk_node-in-Fsm-clause-stand : goal.returns-in_ok-walk_node-in-Fsm-clause-stand
returns-in_ok-walk_node-in-Fsm-clause-stand t c =
    let core = plain_core c.args.core.now in
    let turns = c.args.turns.now in
    let kept = c.args.kept.now in
    let loops = c.args.loops.now in
    on_ok c.name_ops-in-Fsm-3.result
    (λ f d all stand h. f core turns kept loops d all stand (c.in_ok-walk_node-in-Fsm.ensures.stand d all stand (c.in_ok-keep_next-in-Fsm-2.ensures.stand core turns loops d all stand (c.in_ok-keep_next-in-Fsm.ensures.stand core turns loops d all stand
    (c.in_ok-name_ops-in-Fsm-2.ensures.stand core turns kept loops d all stand (c.in_ok-name_ops-in-Fsm.ensures.stand core turns kept loops d all stand h))))))
    c.name_ops-in-Fsm-3.ensures.stand

pub returns-in_ok-walk_node-in-Branch-clause-walks : goal.returns-in_ok-walk_node-in-Branch-clause-walks
returns-in_ok-walk_node-in-Branch-clause-walks t c =
    on_ok c.walk_node-in-Branch-2.result
    (branch_walks (plain_core c.args.core.now) (plain_plan c.args.plan.now) c.args.turns.now c.args.kept.now c.args.loops.now (plain_node c.args.node.now) (plain_ops c.in-Branch.test.items) (plain_ops c.deref-in-Branch.result.now) (plain_node c.in-Branch.yes.value) (plain_node c.in-Branch.no.value) (plain_node c.deref-in-Branch-2.result.now)
    (plain_node c.deref-in-Branch-4.result.now) c.args.index (c.args.index + 1) (c.args.index + 1 + c.count_nodes.result) c.count_nodes.result (numbers_at c.args.around.now) c.args.walk.now c.name_ops-in-Branch.new.walk c.walk_node-in-Branch.new.walk c.walk_node-in-Branch-2.new.walk (ap plain_node c.in-Branch.is)
    (ap plain_ops c.deref-in-Branch.ensures.value) (ap plain_node c.deref-in-Branch-2.ensures) (ap plain_node c.deref-in-Branch-4.ensures) (omega arith) (c.count_nodes.ensures ∙ ap (λ x. node_count (plain_node x)) c.deref-in-Branch-3.ensures) (omega arith) c.in_ok-name_ops-in-Branch.ensures.adds c.in_ok-walk_node-in-Branch.ensures.walks)
    c.walk_node-in-Branch-2.ensures.walks

pub returns-in_ok-walk_node-in-Branch-clause-stand : goal.returns-in_ok-walk_node-in-Branch-clause-stand
returns-in_ok-walk_node-in-Branch-clause-stand t c =
    on_ok c.walk_node-in-Branch-2.result
    (λ f d all stand h. f d all stand (c.in_ok-walk_node-in-Branch.ensures.stand d all stand (c.in_ok-name_ops-in-Branch.ensures.stand (plain_core c.args.core.now) c.args.turns.now c.args.kept.now c.args.loops.now d all stand h)))
    c.walk_node-in-Branch-2.ensures.stand
