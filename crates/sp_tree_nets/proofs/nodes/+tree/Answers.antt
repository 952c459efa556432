use Rattle.std.proofs.Common.{◌≡◌, ◌+◌, ◌<◌, ◌≤◌, rules, [], ◌∷◌, ◌++◌, drop, length, map, arith, refl, sym, ap, subst, ◌∙◌}
use Rattle.std.proofs.lemmas.List.{length-map}
use Rattle.sp_gates.specs.Nets.{HasNet}
use Rattle.sp_gates.proofs.Growing.{HasNet-stays, Grows-join}
use Rattle.sp_core.specs.declared.node.Node.{the_lemmas}
use Rattle.sp_core.specs.CoreParts.{plain_core}
use Rattle.sp_core.specs.Numbering.{node_count, number_count}
use Rattle.sp_core.specs.Plain.{plain_counter, plain_node, plain_op, plain_ops, plain_span}
use Rattle.sp_plan.specs.Plain.{plain_node_plan, plain_plan}
use Rattle.sp_inner_circuits.specs.Inner.{IsInner, IsInnerActed}
use Rattle.sp_tree_handed.specs.Lists.{lists_in}
use Rattle.sp_tree_handed.specs.Standing.{AreListsStanding}
use Rattle.sp_tree_nets.proofs.Listed.{branch_lists_stand, inner_lists, issued_stands, loop_lists_stand, machine_lists_stand}
use Rattle.sp_tree_nets.proofs.Renewing.{branch_owners_stand, loop_owners_stand, machine_owners_stand, none_stand, own_stands}
use Rattle.sp_tree_nets.specs.Emitted.{CanEmit, IsTree}
use Rattle.sp_tree_nets.proofs.Arms.{arm_is, arm_one, arm_other, branch_acted, machine_acted, round_body, round_is, round_next, round_test}
use Rattle.sp_tree_nets.proofs.Rounds.{inner_tree, machine_fits, machine_reserves}
use Rattle.sp_tree_nets.proofs.Sides.{branch_fits, branch_reserves}
use Rattle.std.proofs.lemmas.List.{append-nil}
use Rattle.std.specs.Prelude.{slice_index}
use Rattle.sp_gates.specs.Grows.{Fills}
use Rattle.sp_gates.specs.Nets.{Awaits}
use Rattle.sp_core.specs.Plain.{plain_stage_list}
use Rattle.sp_core.specs.PlainCore.{no_stage, outer}
use Rattle.sp_beat_words.specs.Fits.{AreRows, row_nets}
use Rattle.sp_part_runs.specs.WordsLaws.{AreAsLong}
use Rattle.sp_part_runs.specs.SequencesPlaces.{AreArranged}
use Rattle.sp_plan.specs.PlainPlan.{node_plan}
use Rattle.sp_plan.proofs.RunLists.{drop_past, from_here}
use Rattle.sp_plan.proofs.Trees.{plain_outer}
use Rattle.sp_machine.specs.Timeline.{slots_of, slot_numbers}
use Rattle.sp_stage_places.specs.Arranged.{arranged}
use Rattle.sp_op_nets.proofs.Driving.{stay}
use Rattle.sp_op_nets.proofs.Reserving.{one_reserved}
use Rattle.sp_stage_members.specs.declared.placed.PlacedSlot.{PlacedSlot}
use Rattle.sp_stage_members.specs.Members.{starts_in}
use Rattle.sp_stage_members.specs.Placed.{StandOnce, chains_in, places_of}
use Rattle.sp_loop_circuits.specs.Loops.{IsClosed, LoopFits}
use Rattle.sp_tree_nets.specs.Loops.{CanEmitLoop, IsLoopTree, lists_of_loop}
use Rattle.sp_tree_nets.specs.Stages.{AreStages, CanEmitStages}
use Rattle.sp_tree_nets.proofs.Closed.{all_divided, all_reserved, loop_is, loop_parts, loop_reserves, loop_rules, loop_stages, slot_in}
use Rattle.sp_tree_nets.proofs.Dividing.{is_one}
use Rattle.sp_tree_nets.proofs.Going.{item_can, stages_step}
use Rattle.sp_tree_nets.proofs.Lanes.{no_stages}
use Rattle.sp_tree_nets.proofs.Opened.{first_stage, stage_can, stage_is}
use Rattle.sp_tree_nets.proofs.Planned.{stages_counted}
use Rattle.sp_op_nets.specs.Table.{nets_at}
use Rattle.sp_tree_circuits.specs.Circuits.{slot_nets}
use Rattle.sp_loop_nets.specs.Fits.{counted_wires}
use Rattle.sp_tree_handed.proofs.Moving.{moves_later}
use Rattle.sp_bound_nets.specs.Spans.{AreSpansRight}
use Rattle.sp_tree_nets.proofs.Slicing.{body_stands, both_stand, loop_stands, none_move, slice_right}
use Rattle.sp_tree_handed.specs.declared.moves.Direction.TheVariants.{Load, Store}
use Rattle.sp_tree_handed.specs.Moves.{AreMovesStanding, slices_in, slices_in_stages}
use Rattle.sp_tree_nets.specs.Slices.{transfer_node}
use Rattle.sp_tree_nets.proofs.nodes.+tree.Goals as goal

pub emit_node-emit_node-requires : goal.emit_node-emit_node-requires
emit_node-emit_node-requires t c =
    let is = ap plain_node c.in-Branch.is in
    let len : c.len.result ≡ length (plain_ops c.in-Branch.test.items) = (let l = c.len.ensures in let v = c.in-Branch.test.ok.0 in let m = length-map c.in-Branch.test.items plain_op in omega (arith, l, v, m)) in
    let nodes = c.count_nodes.ensures ∙ ap (λ x. node_count (plain_node x)) c.deref-in-Branch-2.ensures in
    let numbers = c.count_numbers.ensures ∙ ap (λ x. number_count (plain_node x)) c.deref-in-Branch-3.ensures in
    (search (rules, the_lemmas), (arm_one (plain_core c.args.core.now) (plain_plan c.args.plan.now) c.args.around.now c.args.ends.now (plain_node c.args.node.now) (plain_ops c.in-Branch.test.items) (plain_node c.in-Branch.yes.value) (plain_node c.in-Branch.no.value) c.args.index c.args.number c.len.result c.count_nodes.result c.count_numbers.result is len nodes numbers c.args.builder.now c.begin_branch.new.builder (plain_node c.deref-in-Branch-4.result.now) (ap plain_node c.deref-in-Branch-4.ensures) c.requires.can c.in_ok-turns-in-Branch.ensures.reserves.grows, c.in_ok-turns-in-Branch.ensures.yes_net))

pub emit_node-emit_node-requires-in-Branch : goal.emit_node-emit_node-requires-in-Branch
emit_node-emit_node-requires-in-Branch t c =
    let is = ap plain_node c.in-Branch.is in
    let len : c.len.result ≡ length (plain_ops c.in-Branch.test.items) = (let l = c.len.ensures in let v = c.in-Branch.test.ok.0 in let m = length-map c.in-Branch.test.items plain_op in omega (arith, l, v, m)) in
    let nodes = c.count_nodes.ensures ∙ ap (λ x. node_count (plain_node x)) c.deref-in-Branch-2.ensures in
    let numbers = c.count_numbers.ensures ∙ ap (λ x. number_count (plain_node x)) c.deref-in-Branch-3.ensures in
    (search (rules, the_lemmas), (arm_other (plain_core c.args.core.now) (plain_plan c.args.plan.now) c.args.around.now c.args.ends.now (plain_node c.args.node.now) (plain_ops c.in-Branch.test.items) (plain_node c.in-Branch.yes.value) (plain_node c.in-Branch.no.value) c.args.index c.args.number c.len.result c.count_nodes.result c.count_numbers.result is len nodes numbers c.args.builder.now c.emit_node.new.builder (plain_node c.deref-in-Branch-5.result.now) (ap plain_node c.deref-in-Branch-5.ensures) c.requires.can (Grows-join _ _ _ c.in_ok-turns-in-Branch.ensures.reserves.grows c.in_ok-one-in-Branch.ensures.reserves.grows), HasNet-stays _ _ _ _ c.in_ok-one-in-Branch.ensures.reserves.grows c.in_ok-turns-in-Branch.ensures.no_net))

pub emit_node-end_branch-requires : goal.emit_node-end_branch-requires
emit_node-end_branch-requires t c =
    branch_fits c.args.builder.now c.begin_branch.new.builder c.emit_node.new.builder c.emit_node-in-Branch.new.builder c.args.start c.in_ok-turns-in-Branch.field-0.test.child c.in_ok-turns-in-Branch.field-0.test.word c.in_ok-one-in-Branch.one.child c.in_ok-other-in-Branch.other.child c.in_ok-turns-in-Branch.field-0.yes c.in_ok-turns-in-Branch.field-0.no _ _ _ c.in_ok-turns-in-Branch.ensures.reserves c.in_ok-one-in-Branch.ensures.reserves c.in_ok-other-in-Branch.ensures.reserves c.in_ok-one-in-Branch.ensures.start c.in_ok-other-in-Branch.ensures.start c.requires.start c.in_ok-turns-in-Branch.ensures.word c.in_ok-turns-in-Branch.ensures.start c.in_ok-turns-in-Branch.ensures.done c.in_ok-turns-in-Branch.ensures.yes c.in_ok-one-in-Branch.ensures.done c.in_ok-turns-in-Branch.ensures.no c.in_ok-other-in-Branch.ensures.done

pub emit_node-returns-in_ok-owners-in-Branch-clause-reserves : goal.emit_node-returns-in_ok-owners-in-Branch-clause-reserves
emit_node-returns-in_ok-owners-in-Branch-clause-reserves t c =
    branch_acted c.args.builder.now c.end_branch.new.builder c.in_ok-turns-in-Branch.field-0.test.acted c.in_ok-one-in-Branch.one.acted.items c.in_ok-other-in-Branch.other.acted.items c.in_ok-acted-in-Branch.acted.items c.in_ok-acted-in-Branch.ensures
    (branch_reserves c.args.builder.now c.begin_branch.new.builder c.emit_node.new.builder c.emit_node-in-Branch.new.builder c.args.start c.in_ok-turns-in-Branch.field-0.test.child c.in_ok-turns-in-Branch.field-0.test.word c.in_ok-one-in-Branch.one.child c.in_ok-other-in-Branch.other.child c.in_ok-turns-in-Branch.field-0.yes c.in_ok-turns-in-Branch.field-0.no _ _ _ c.in_ok-turns-in-Branch.ensures.reserves c.in_ok-one-in-Branch.ensures.reserves c.in_ok-other-in-Branch.ensures.reserves c.in_ok-one-in-Branch.ensures.start c.in_ok-other-in-Branch.ensures.start c.end_branch.new.builder c.in_ok-child-in-Branch.ensures.fills)

pub emit_node-returns-in_ok-owners-in-Branch-clause-tree : goal.emit_node-returns-in_ok-owners-in-Branch-clause-tree
emit_node-returns-in_ok-owners-in-Branch-clause-tree t c =
    let is = ap plain_node c.in-Branch.is in
    let len : c.len.result ≡ length (plain_ops c.in-Branch.test.items) = (let l = c.len.ensures in let v = c.in-Branch.test.ok.0 in let m = length-map c.in-Branch.test.items plain_op in omega (arith, l, v, m)) in
    let nodes = c.count_nodes.ensures ∙ ap (λ x. node_count (plain_node x)) c.deref-in-Branch-2.ensures in
    let numbers = c.count_numbers.ensures ∙ ap (λ x. number_count (plain_node x)) c.deref-in-Branch-3.ensures in
    arm_is (plain_core c.args.core.now) (plain_plan c.args.plan.now) c.args.around.now c.args.ends.now (plain_node c.args.node.now) (plain_ops c.in-Branch.test.items) (plain_node c.in-Branch.yes.value) (plain_node c.in-Branch.no.value) c.args.index c.args.number c.len.result c.count_nodes.result c.count_numbers.result is len nodes numbers c.args.builder.now c.begin_branch.new.builder c.emit_node.new.builder c.emit_node-in-Branch.new.builder c.end_branch.new.builder c.args.start c.in_ok-child-in-Branch.child (plain_ops c.deref-in-Branch.result.now) c.in_ok-turns-in-Branch.field-0.test.child c.in_ok-turns-in-Branch.field-0.test.word c.in_ok-one-in-Branch.one.child c.in_ok-other-in-Branch.other.child c.in_ok-turns-in-Branch.field-0.test.acted c.in_ok-one-in-Branch.one.acted.items c.in_ok-other-in-Branch.other.acted.items c.in_ok-acted-in-Branch.acted.items c.in_ok-one-in-Branch.one.owners.turns.items c.in_ok-other-in-Branch.other.owners.turns.items c.in_ok-owners-in-Branch.owners.turns.items c.in_ok-one-in-Branch.one.owners.kept.items c.in_ok-other-in-Branch.other.owners.kept.items c.in_ok-owners-in-Branch.owners.kept.items c.in_ok-one-in-Branch.one.moves.items c.in_ok-other-in-Branch.other.moves.items c.in_ok-moves-in-Branch.moves.items (plain_node c.deref-in-Branch-4.result.now) (plain_node c.deref-in-Branch-5.result.now) c.in_ok-owners-in-Branch.ensures.turns c.in_ok-owners-in-Branch.ensures.kept c.in_ok-moves-in-Branch.ensures (ap plain_ops c.deref-in-Branch.ensures.value) (ap plain_node c.deref-in-Branch-4.ensures) (ap plain_node c.deref-in-Branch-5.ensures) c.in_ok-child-in-Branch.ensures.start c.in_ok-acted-in-Branch.ensures c.in_ok-turns-in-Branch.ensures.reserves.grows c.in_ok-one-in-Branch.ensures.reserves.grows c.in_ok-other-in-Branch.ensures.reserves.grows c.in_ok-child-in-Branch.ensures.fills.grows c.in_ok-turns-in-Branch.ensures.turns c.in_ok-one-in-Branch.ensures.tree c.in_ok-other-in-Branch.ensures.tree c.in_ok-child-in-Branch.ensures.runs

pub emit_node-returns-in_ok-owners-in-Branch-clause-lists : goal.emit_node-returns-in_ok-owners-in-Branch-clause-lists
emit_node-returns-in_ok-owners-in-Branch-clause-lists t c =
    let is = ap plain_node c.in-Branch.is in
    let len : c.len.result ≡ length (plain_ops c.in-Branch.test.items) = (let l = c.len.ensures in let v = c.in-Branch.test.ok.0 in let m = length-map c.in-Branch.test.items plain_op in omega (arith, l, v, m)) in
    let numbers = c.count_numbers.ensures ∙ ap (λ x. number_count (plain_node x)) c.deref-in-Branch-3.ensures in
    branch_lists_stand (plain_core c.args.core.now) (plain_node c.args.node.now) (plain_ops c.in-Branch.test.items) (plain_node c.in-Branch.yes.value) (plain_node c.in-Branch.no.value) c.args.number c.len.result c.count_numbers.result is len numbers c.begin_branch.new.builder c.emit_node.new.builder c.emit_node-in-Branch.new.builder c.end_branch.new.builder (plain_ops c.deref-in-Branch.result.now) c.in_ok-turns-in-Branch.field-0.test.acted c.in_ok-one-in-Branch.one.acted.items c.in_ok-other-in-Branch.other.acted.items c.in_ok-acted-in-Branch.acted.items (plain_node c.deref-in-Branch-4.result.now) (plain_node c.deref-in-Branch-5.result.now) (ap plain_ops c.deref-in-Branch.ensures.value) (ap plain_node c.deref-in-Branch-4.ensures) (ap plain_node c.deref-in-Branch-5.ensures) c.in_ok-acted-in-Branch.ensures c.in_ok-one-in-Branch.ensures.reserves.grows c.in_ok-other-in-Branch.ensures.reserves.grows c.in_ok-child-in-Branch.ensures.fills.grows c.in_ok-turns-in-Branch.ensures.list c.in_ok-one-in-Branch.ensures.lists c.in_ok-other-in-Branch.ensures.lists

pub emit_node-returns-in_ok-owners-in-Branch-clause-owners : goal.emit_node-returns-in_ok-owners-in-Branch-clause-owners
emit_node-returns-in_ok-owners-in-Branch-clause-owners t c =
    branch_owners_stand c.emit_node.new.builder c.emit_node-in-Branch.new.builder c.end_branch.new.builder (plain_core c.args.core.now) c.in_ok-one-in-Branch.one.owners.turns.items c.in_ok-other-in-Branch.other.owners.turns.items c.in_ok-owners-in-Branch.owners.turns.items c.in_ok-one-in-Branch.one.owners.kept.items c.in_ok-other-in-Branch.other.owners.kept.items c.in_ok-owners-in-Branch.owners.kept.items c.in_ok-owners-in-Branch.ensures.turns c.in_ok-owners-in-Branch.ensures.kept c.in_ok-other-in-Branch.ensures.reserves.grows c.in_ok-child-in-Branch.ensures.fills.grows c.in_ok-one-in-Branch.ensures.owners c.in_ok-other-in-Branch.ensures.owners

pub emit_node-returns-in_ok-owners-in-Branch-clause-moves : goal.emit_node-returns-in_ok-owners-in-Branch-clause-moves
emit_node-returns-in_ok-owners-in-Branch-clause-moves t c =
    let is = ap plain_node c.in-Branch.is in
    let nodes = c.count_nodes.ensures ∙ ap (λ x. node_count (plain_node x)) c.deref-in-Branch-2.ensures in
    both_stand (plain_node c.args.node.now) (plain_ops c.in-Branch.test.items) (plain_node c.in-Branch.yes.value) (plain_node c.in-Branch.no.value) c.args.index c.count_nodes.result is nodes c.emit_node.new.builder c.emit_node-in-Branch.new.builder c.end_branch.new.builder c.in_ok-one-in-Branch.one.moves.items c.in_ok-other-in-Branch.other.moves.items c.in_ok-moves-in-Branch.moves.items (plain_node c.deref-in-Branch-4.result.now) (plain_node c.deref-in-Branch-5.result.now) (ap plain_node c.deref-in-Branch-4.ensures) (ap plain_node c.deref-in-Branch-5.ensures) c.in_ok-moves-in-Branch.ensures (Grows-join _ _ _ c.in_ok-other-in-Branch.ensures.reserves.grows c.in_ok-child-in-Branch.ensures.fills.grows) c.in_ok-child-in-Branch.ensures.fills.grows c.in_ok-one-in-Branch.ensures.moves c.in_ok-other-in-Branch.ensures.moves

pub emit_node-begin_machine-requires-clause-test_right : goal.emit_node-begin_machine-requires-clause-test_right
emit_node-begin_machine-requires-clause-test_right t c =
    let is = ap plain_node c.in-Fsm.is in
    round_test (plain_core c.args.core.now) (plain_plan c.args.plan.now) c.args.around.now c.args.ends.now (plain_node c.args.node.now) (plain_ops c.in-Fsm.first.items) c.in-Fsm.state (plain_ops c.in-Fsm.test.items) (plain_node c.in-Fsm.body.value) (plain_ops c.in-Fsm.next.items) c.args.index c.args.number is c.args.builder.now (plain_ops c.deref-in-Fsm-2.result.now) (ap plain_ops c.deref-in-Fsm-2.ensures.value) c.requires.can

pub emit_node-emit_node-requires-in-Fsm : goal.emit_node-emit_node-requires-in-Fsm
emit_node-emit_node-requires-in-Fsm t c =
    let is = ap plain_node c.in-Fsm.is in
    let len : c.len-in-Fsm.result ≡ length (plain_ops c.in-Fsm.first.items) = (let l = c.len-in-Fsm.ensures in let v = c.in-Fsm.first.ok.0 in let m = length-map c.in-Fsm.first.items plain_op in omega (arith, l, v, m)) in
    let more : c.len-in-Fsm-2.result ≡ length (plain_ops c.in-Fsm.test.items) = (let l = c.len-in-Fsm-2.ensures in let v = c.in-Fsm.test.ok.0 in let m = length-map c.in-Fsm.test.items plain_op in omega (arith, l, v, m)) in
    let numbers = c.count_numbers-in-Fsm.ensures ∙ ap (λ x. number_count (plain_node x)) c.deref-in-Fsm-3.ensures in
    (search (rules, the_lemmas), (round_body (plain_core c.args.core.now) (plain_plan c.args.plan.now) c.args.around.now c.args.ends.now (plain_node c.args.node.now) (plain_ops c.in-Fsm.first.items) c.in-Fsm.state (plain_ops c.in-Fsm.test.items) (plain_node c.in-Fsm.body.value) (plain_ops c.in-Fsm.next.items) c.args.index c.args.number is c.len-in-Fsm.result c.len-in-Fsm-2.result c.count_numbers-in-Fsm.result len more numbers c.args.builder.now c.begin_machine.new.builder (plain_node c.deref-in-Fsm-4.result.now) (ap plain_node c.deref-in-Fsm-4.ensures) c.requires.can c.in_ok-begins-in-Fsm.ensures.reserves.grows, c.in_ok-begins-in-Fsm.ensures.body_net))

pub emit_node-emit_turns-requires-clause-right : goal.emit_node-emit_turns-requires-clause-right
emit_node-emit_turns-requires-clause-right t c =
    let is = ap plain_node c.in-Fsm.is in
    round_next (plain_core c.args.core.now) (plain_plan c.args.plan.now) c.args.around.now c.args.ends.now (plain_node c.args.node.now) (plain_ops c.in-Fsm.first.items) c.in-Fsm.state (plain_ops c.in-Fsm.test.items) (plain_node c.in-Fsm.body.value) (plain_ops c.in-Fsm.next.items) c.args.index c.args.number is c.args.builder.now c.emit_node-in-Fsm.new.builder (plain_ops c.deref-in-Fsm-5.result.now) c.mem_ty-ty.result (ap plain_ops c.deref-in-Fsm-5.ensures.value) c.mem_ty-ty.ensures c.requires.can (Grows-join _ _ _ c.in_ok-begins-in-Fsm.ensures.reserves.grows c.in_ok-work-in-Fsm.ensures.reserves.grows)

pub emit_node-emit_turns-requires-clause-start : goal.emit_node-emit_turns-requires-clause-start
emit_node-emit_turns-requires-clause-start t c =
    HasNet-stays _ _ _ _ c.in_ok-work-in-Fsm.ensures.reserves.grows c.in_ok-begins-in-Fsm.ensures.next_net

pub emit_node-end_machine-requires : goal.emit_node-end_machine-requires
emit_node-end_machine-requires t c =
    machine_fits c.args.builder.now c.begin_machine.new.builder c.emit_node-in-Fsm.new.builder c.emit_turns.new.builder c.args.start c.in_ok-begins-in-Fsm.field-0.first.child c.in_ok-begins-in-Fsm.field-0.test.child c.in_ok-begins-in-Fsm.field-0.test.word c.in_ok-work-in-Fsm.work.child c.in_ok-step-in-Fsm.step.child c.in_ok-begins-in-Fsm.field-0.body c.in_ok-begins-in-Fsm.field-0.next _ _ _ c.in_ok-begins-in-Fsm.ensures.reserves c.in_ok-work-in-Fsm.ensures.reserves c.in_ok-step-in-Fsm.ensures.reserves c.in_ok-work-in-Fsm.ensures.start c.in_ok-step-in-Fsm.ensures.start c.requires.start c.in_ok-begins-in-Fsm.ensures.word c.in_ok-begins-in-Fsm.ensures.first_start c.in_ok-begins-in-Fsm.ensures.first_done c.in_ok-begins-in-Fsm.ensures.test_start c.in_ok-begins-in-Fsm.ensures.test_done c.in_ok-begins-in-Fsm.ensures.body c.in_ok-work-in-Fsm.ensures.done c.in_ok-begins-in-Fsm.ensures.next c.in_ok-step-in-Fsm.ensures.done

pub emit_node-returns-in_ok-acted-in-Fsm-clause-reserves : goal.emit_node-returns-in_ok-acted-in-Fsm-clause-reserves
emit_node-returns-in_ok-acted-in-Fsm-clause-reserves t c =
    machine_acted c.args.builder.now c.end_machine.new.builder c.in_ok-begins-in-Fsm.field-0.first.acted c.in_ok-begins-in-Fsm.field-0.test.acted c.in_ok-work-in-Fsm.work.acted.items c.in_ok-step-in-Fsm.step.acted c.in_ok-acted-in-Fsm.acted.items c.in_ok-acted-in-Fsm.ensures
    (machine_reserves c.args.builder.now c.begin_machine.new.builder c.emit_node-in-Fsm.new.builder c.emit_turns.new.builder c.args.start c.in_ok-begins-in-Fsm.field-0.first.child c.in_ok-begins-in-Fsm.field-0.test.child c.in_ok-begins-in-Fsm.field-0.test.word c.in_ok-work-in-Fsm.work.child c.in_ok-step-in-Fsm.step.child c.in_ok-begins-in-Fsm.field-0.body c.in_ok-begins-in-Fsm.field-0.next _ _ _ c.in_ok-begins-in-Fsm.ensures.reserves c.in_ok-work-in-Fsm.ensures.reserves c.in_ok-step-in-Fsm.ensures.reserves c.in_ok-work-in-Fsm.ensures.start c.in_ok-step-in-Fsm.ensures.start c.end_machine.new.builder c.in_ok-child-in-Fsm.ensures.fills)

pub emit_node-returns-in_ok-acted-in-Fsm-clause-tree : goal.emit_node-returns-in_ok-acted-in-Fsm-clause-tree
emit_node-returns-in_ok-acted-in-Fsm-clause-tree t c =
    let is = ap plain_node c.in-Fsm.is in
    let len : c.len-in-Fsm.result ≡ length (plain_ops c.in-Fsm.first.items) = (let l = c.len-in-Fsm.ensures in let v = c.in-Fsm.first.ok.0 in let m = length-map c.in-Fsm.first.items plain_op in omega (arith, l, v, m)) in
    let more : c.len-in-Fsm-2.result ≡ length (plain_ops c.in-Fsm.test.items) = (let l = c.len-in-Fsm-2.ensures in let v = c.in-Fsm.test.ok.0 in let m = length-map c.in-Fsm.test.items plain_op in omega (arith, l, v, m)) in
    let numbers = c.count_numbers-in-Fsm.ensures ∙ ap (λ x. number_count (plain_node x)) c.deref-in-Fsm-3.ensures in
    round_is (plain_core c.args.core.now) (plain_plan c.args.plan.now) c.args.around.now c.args.ends.now (plain_node c.args.node.now) (plain_ops c.in-Fsm.first.items) c.in-Fsm.state (plain_ops c.in-Fsm.test.items) (plain_node c.in-Fsm.body.value) (plain_ops c.in-Fsm.next.items) c.args.index c.args.number is c.len-in-Fsm.result c.len-in-Fsm-2.result c.count_numbers-in-Fsm.result len more numbers c.args.builder.now c.begin_machine.new.builder c.emit_node-in-Fsm.new.builder c.emit_turns.new.builder c.end_machine.new.builder c.args.start c.in_ok-child-in-Fsm.child c.in_ok-begins-in-Fsm.field-0.first.child c.in_ok-begins-in-Fsm.field-0.first.word c.in_ok-begins-in-Fsm.field-0.test.child c.in_ok-begins-in-Fsm.field-0.test.word c.in_ok-work-in-Fsm.work.child c.in_ok-step-in-Fsm.step.child c.in_ok-step-in-Fsm.step.word c.in_ok-begins-in-Fsm.field-0.first.acted c.in_ok-begins-in-Fsm.field-0.test.acted c.in_ok-work-in-Fsm.work.acted.items c.in_ok-step-in-Fsm.step.acted c.in_ok-acted-in-Fsm.acted.items c.in_ok-work-in-Fsm.work.owners.turns.items c.in_ok-owners-in-Fsm.owners.turns.items c.in_ok-work-in-Fsm.work.owners.kept.items c.in_ok-owners-in-Fsm.owners.kept.items c.in_ok-work-in-Fsm.work.moves.items c.in_ok-work-in-Fsm.work.moves.items (plain_ops c.deref-in-Fsm.result.now) (plain_ops c.deref-in-Fsm-2.result.now) (plain_ops c.deref-in-Fsm-5.result.now) (plain_node c.deref-in-Fsm-4.result.now) (length c.deref-in-Fsm.result.now) c.in_ok-owners-in-Fsm.ensures.turns c.in_ok-owners-in-Fsm.ensures.kept refl (ap plain_ops c.deref-in-Fsm.ensures.value) (ap plain_ops c.deref-in-Fsm-2.ensures.value) (ap plain_ops c.deref-in-Fsm-5.ensures.value) (ap plain_node c.deref-in-Fsm-4.ensures) (ap (λ xs. length xs) c.deref-in-Fsm.ensures.value ∙ sym (length-map c.in-Fsm.first.items plain_op)) c.in_ok-child-in-Fsm.ensures.start c.in_ok-acted-in-Fsm.ensures c.in_ok-begins-in-Fsm.ensures.reserves.grows c.in_ok-work-in-Fsm.ensures.reserves.grows c.in_ok-step-in-Fsm.ensures.reserves.grows c.in_ok-child-in-Fsm.ensures.fills.grows c.in_ok-begins-in-Fsm.ensures.begins c.in_ok-begins-in-Fsm.ensures.tests c.in_ok-work-in-Fsm.ensures.tree c.in_ok-step-in-Fsm.ensures.turns c.in_ok-child-in-Fsm.ensures.runs

pub emit_node-returns-in_ok-acted-in-Fsm-clause-lists : goal.emit_node-returns-in_ok-acted-in-Fsm-clause-lists
emit_node-returns-in_ok-acted-in-Fsm-clause-lists t c =
    let is = ap plain_node c.in-Fsm.is in
    let len : c.len-in-Fsm.result ≡ length (plain_ops c.in-Fsm.first.items) = (let l = c.len-in-Fsm.ensures in let v = c.in-Fsm.first.ok.0 in let m = length-map c.in-Fsm.first.items plain_op in omega (arith, l, v, m)) in
    let more : c.len-in-Fsm-2.result ≡ length (plain_ops c.in-Fsm.test.items) = (let l = c.len-in-Fsm-2.ensures in let v = c.in-Fsm.test.ok.0 in let m = length-map c.in-Fsm.test.items plain_op in omega (arith, l, v, m)) in
    let numbers = c.count_numbers-in-Fsm.ensures ∙ ap (λ x. number_count (plain_node x)) c.deref-in-Fsm-3.ensures in
    machine_lists_stand (plain_core c.args.core.now) (plain_node c.args.node.now) (plain_ops c.in-Fsm.first.items) c.in-Fsm.state (plain_ops c.in-Fsm.test.items) (plain_node c.in-Fsm.body.value) (plain_ops c.in-Fsm.next.items) c.args.number is c.len-in-Fsm.result c.len-in-Fsm-2.result c.count_numbers-in-Fsm.result len more numbers c.begin_machine.new.builder c.emit_node-in-Fsm.new.builder c.emit_turns.new.builder c.end_machine.new.builder c.in_ok-begins-in-Fsm.field-0.first.acted c.in_ok-begins-in-Fsm.field-0.test.acted c.in_ok-work-in-Fsm.work.acted.items c.in_ok-step-in-Fsm.step.acted c.in_ok-acted-in-Fsm.acted.items (plain_ops c.deref-in-Fsm.result.now) (plain_ops c.deref-in-Fsm-2.result.now) (plain_ops c.deref-in-Fsm-5.result.now) (plain_node c.deref-in-Fsm-4.result.now) (length c.deref-in-Fsm.result.now) (ap plain_ops c.deref-in-Fsm.ensures.value) (ap plain_ops c.deref-in-Fsm-2.ensures.value) (ap plain_ops c.deref-in-Fsm-5.ensures.value) (ap plain_node c.deref-in-Fsm-4.ensures) (ap (λ xs. length xs) c.deref-in-Fsm.ensures.value ∙ sym (length-map c.in-Fsm.first.items plain_op)) c.in_ok-acted-in-Fsm.ensures c.in_ok-work-in-Fsm.ensures.reserves.grows c.in_ok-step-in-Fsm.ensures.reserves.grows c.in_ok-child-in-Fsm.ensures.fills.grows c.in_ok-begins-in-Fsm.ensures.first_list c.in_ok-begins-in-Fsm.ensures.test_list c.in_ok-work-in-Fsm.ensures.lists
    (issued_stands c.emit_turns.new.builder (plain_core c.args.core.now) (c.args.number + (c.len-in-Fsm.result + c.len-in-Fsm-2.result) + c.count_numbers-in-Fsm.result) (plain_ops c.deref-in-Fsm-5.result.now) c.in_ok-step-in-Fsm.step.acted c.in_ok-step-in-Fsm.ensures.acted)

pub emit_node-returns-in_ok-acted-in-Fsm-clause-owners : goal.emit_node-returns-in_ok-acted-in-Fsm-clause-owners
emit_node-returns-in_ok-acted-in-Fsm-clause-owners t c =
    machine_owners_stand c.begin_machine.new.builder c.emit_node-in-Fsm.new.builder c.emit_turns.new.builder c.end_machine.new.builder (plain_core c.args.core.now) c.in-Fsm.state c.mem_ty-ty.result c.in_ok-begins-in-Fsm.field-0.first.child.done c.in_ok-begins-in-Fsm.field-0.first.word c.in_ok-step-in-Fsm.step.child.done c.in_ok-step-in-Fsm.step.word c.in_ok-work-in-Fsm.work.owners.turns.items c.in_ok-owners-in-Fsm.owners.turns.items c.in_ok-work-in-Fsm.work.owners.kept.items c.in_ok-owners-in-Fsm.owners.kept.items c.in_ok-owners-in-Fsm.ensures.turns c.in_ok-owners-in-Fsm.ensures.kept c.mem_ty-ty.ensures c.in_ok-work-in-Fsm.ensures.reserves.grows c.in_ok-step-in-Fsm.ensures.reserves.grows c.in_ok-child-in-Fsm.ensures.fills.grows c.in_ok-begins-in-Fsm.ensures.first_done c.in_ok-begins-in-Fsm.ensures.begun_word c.in_ok-step-in-Fsm.ensures.done c.in_ok-step-in-Fsm.ensures.word c.in_ok-work-in-Fsm.ensures.owners

pub emit_node-returns-in_ok-acted-in-Fsm-clause-moves : goal.emit_node-returns-in_ok-acted-in-Fsm-clause-moves
emit_node-returns-in_ok-acted-in-Fsm-clause-moves t c =
    let is = ap plain_node c.in-Fsm.is in
    body_stands (plain_node c.args.node.now) (plain_ops c.in-Fsm.first.items) c.in-Fsm.state (plain_ops c.in-Fsm.test.items) (plain_node c.in-Fsm.body.value) (plain_ops c.in-Fsm.next.items) c.args.index is c.emit_node-in-Fsm.new.builder c.end_machine.new.builder c.in_ok-work-in-Fsm.work.moves.items (plain_node c.deref-in-Fsm-4.result.now) (ap plain_node c.deref-in-Fsm-4.ensures) (Grows-join _ _ _ c.in_ok-step-in-Fsm.ensures.reserves.grows c.in_ok-child-in-Fsm.ensures.fills.grows) c.in_ok-work-in-Fsm.ensures.moves

pub emit_node-returns-in_ok-inner-in-Inner-clause-tree : goal.emit_node-returns-in_ok-inner-in-Inner-clause-tree
emit_node-returns-in_ok-inner-in-Inner-clause-tree t c =
    let is = ap plain_node c.in-Inner.is in
    let body = subst (λ xs. IsInner c.args.builder.now c.emit_inner.new.builder (plain_core c.args.core.now) c.args.around.now (plain_node_plan c.node_plan-planned.result.now) c.args.number (map plain_counter c.in-Inner.counters.items) (plain_ops xs) c.in_ok-inner-in-Inner.inner.child c.in_ok-inner-in-Inner.inner.acted.items) c.deref-in-Inner.ensures.value (subst (λ xs. IsInner c.args.builder.now c.emit_inner.new.builder (plain_core c.args.core.now) c.args.around.now (plain_node_plan c.node_plan-planned.result.now) c.args.number (map plain_counter xs) (plain_ops c.deref-in-Inner.result.now) c.in_ok-inner-in-Inner.inner.child c.in_ok-inner-in-Inner.inner.acted.items) c.deref.ensures.value c.in_ok-inner-in-Inner.ensures.inner) in
    inner_tree c.args.builder.now c.emit_inner.new.builder (plain_core c.args.core.now) (plain_plan c.args.plan.now) c.args.around.now c.args.ends.now (map plain_counter c.in-Inner.counters.items) c.in-Inner.owned.items (plain_ops c.in-Inner.ops.items) c.in-Inner.comb c.args.index c.args.number (plain_node c.args.node.now) is c.no_owners.result.turns.items c.no_owners.result.kept.items c.new.result.items c.no_owners.ensures.turns c.no_owners.ensures.kept c.new.ensures.items (plain_node_plan c.node_plan-planned.result.now) c.in_ok-inner-in-Inner.inner.child c.in_ok-inner-in-Inner.inner.acted.items c.node_plan-planned.ensures body

pub emit_node-returns-in_ok-inner-in-Inner-clause-lists : goal.emit_node-returns-in_ok-inner-in-Inner-clause-lists
emit_node-returns-in_ok-inner-in-Inner-clause-lists t c =
    let is = ap plain_node c.in-Inner.is in
    let acted = subst (λ xs. IsInnerActed c.emit_inner.new.builder (plain_core c.args.core.now) c.args.number (map plain_counter c.in-Inner.counters.items) (plain_ops xs) c.in_ok-inner-in-Inner.inner.acted.items) c.deref-in-Inner.ensures.value (subst (λ xs. IsInnerActed c.emit_inner.new.builder (plain_core c.args.core.now) c.args.number (map plain_counter xs) (plain_ops c.deref-in-Inner.result.now) c.in_ok-inner-in-Inner.inner.acted.items) c.deref.ensures.value c.in_ok-inner-in-Inner.ensures.acted) in
    subst (λ v. AreListsStanding c.emit_inner.new.builder (plain_core c.args.core.now) (lists_in v c.args.number) c.in_ok-inner-in-Inner.inner.acted.items) (sym is)
    (inner_lists c.emit_inner.new.builder (plain_core c.args.core.now) (map plain_counter c.in-Inner.counters.items) c.in-Inner.owned.items (plain_ops c.in-Inner.ops.items) c.in-Inner.comb c.args.number c.in_ok-inner-in-Inner.inner.acted.items acted)

pub emit_node-returns-in_ok-inner-in-Inner-clause-owners : goal.emit_node-returns-in_ok-inner-in-Inner-clause-owners
emit_node-returns-in_ok-inner-in-Inner-clause-owners t c =
    none_stand c.emit_inner.new.builder (plain_core c.args.core.now) c.no_owners.result.turns.items c.no_owners.result.kept.items c.no_owners.ensures.turns c.no_owners.ensures.kept

pub emit_node-returns-in_ok-inner-in-Inner-clause-moves : goal.emit_node-returns-in_ok-inner-in-Inner-clause-moves
emit_node-returns-in_ok-inner-in-Inner-clause-moves t c =
    none_move c.emit_inner.new.builder (plain_node c.args.node.now) (map plain_counter c.in-Inner.counters.items) c.in-Inner.owned.items (plain_ops c.in-Inner.ops.items) c.in-Inner.comb c.args.index (ap plain_node c.in-Inner.is) c.new.result.items c.new.ensures.items

pub emit_stage-emit_node-requires : goal.emit_stage-emit_node-requires
emit_stage-emit_node-requires t c =
    (search (rules, the_lemmas), (subst (λ xs. CanEmit c.reserve.new.builder (plain_core c.args.core.now) (plain_plan c.args.plan.now) xs c.args.ends.now (plain_node c.args.stage.now.node) c.args.index c.args.number) (sym c.deref-2.ensures.value) (stage_can (plain_core c.args.core.now) (plain_plan c.args.plan.now) c.args.around.now c.in_ok-table.table.items c.args.ends.now c.args.begun.now (map plain_counter c.args.counters.now) c.args.stage.now.first c.args.stage.now.last c.args.stage.now.comb (plain_node c.args.stage.now.node) c.args.slot c.args.index c.args.number c.args.builder.now c.reserve.new.builder (c.in_ok-start.start ∷ []) (one_reserved c.args.builder.now c.reserve.new.builder c.in_ok-start.start 1 c.in_ok-start.ensures.opens c.in_ok-start.ensures.awaits) c.requires.loop_stands (λ d near h rows masks. c.in_ok-table.ensures.stand d near h (subst (λ xs. AreRows d (counted_wires c.args.begun.now.nets) xs) (sym c.deref.ensures.value) rows)) c.requires.can), c.in_ok-start.ensures.net))

pub emit_stage-returns : goal.emit_stage-returns
emit_stage-returns t c =
    stage_is (plain_core c.args.core.now) (plain_plan c.args.plan.now) c.args.around.now c.in_ok-table.table.items c.args.ends.now c.args.begun.now (map plain_counter c.args.counters.now) c.args.stage.now.first c.args.stage.now.last c.args.stage.now.comb (plain_node c.args.stage.now.node) c.args.slot c.args.index c.args.number c.args.builder.now c.reserve.new.builder (c.in_ok-start.start ∷ []) (one_reserved c.args.builder.now c.reserve.new.builder c.in_ok-start.start 1 c.in_ok-start.ensures.opens c.in_ok-start.ensures.awaits) c.requires.loop_stands (λ d near h rows masks. c.in_ok-table.ensures.stand d near h (subst (λ xs. AreRows d (counted_wires c.args.begun.now.nets) xs) (sym c.deref.ensures.value) rows)) c.emit_node.new.builder c.in_ok-tree.tree.child c.in_ok-tree.tree.acted.items c.in_ok-tree.tree.owners.turns.items c.in_ok-tree.tree.owners.kept.items c.in_ok-tree.tree.moves.items (ap (λ x. x ∷ []) (sym c.in_ok-tree.ensures.start)) (subst (λ x. Awaits c.reserve.new.builder x 1) (sym c.in_ok-tree.ensures.start) c.in_ok-start.ensures.awaits) c.in_ok-tree.ensures.reserves c.in_ok-tree.ensures.done (λ number. c.in_ok-table.ensures.nets number ∙ ap (λ xs. slot_nets c.args.begun.now.nets xs (nets_at c.args.around.now) (map plain_counter c.args.counters.now) c.args.slot number) c.deref.ensures.value)
    (subst (λ xs. IsTree c.reserve.new.builder c.emit_node.new.builder (plain_core c.args.core.now) (plain_plan c.args.plan.now) xs c.args.ends.now (plain_node c.args.stage.now.node) c.args.index c.args.number c.in_ok-tree.tree.child c.in_ok-tree.tree.acted.items c.in_ok-tree.tree.owners.turns.items c.in_ok-tree.tree.owners.kept.items c.in_ok-tree.tree.moves.items) c.deref-2.ensures.value c.in_ok-tree.ensures.tree) c.in_ok-tree.ensures.lists c.in_ok-tree.ensures.owners c.in_ok-tree.ensures.moves

pub emit_stages-loop-stage-init : goal.emit_stages-loop-stage-init
emit_stages-loop-stage-init t c = (
  c.requires.can,
  c.requires.loop_stands,
  refl,
  λ new ps ls rs ks ms h.
      subst (λ xs. AreStages c.args.builder.now new (plain_core c.args.core.now) (plain_plan c.args.plan.now) c.args.around.now c.args.ends.now c.args.begun.now (map plain_counter c.args.counters.now) (plain_stage_list c.args.stages.now) c.args.slots.now c.args.index c.args.number (xs ++ ps) (c.new-acted.result.items ++ ls) (c.no_owners-owners.result.turns.items ++ rs) (c.no_owners-owners.result.kept.items ++ ks) (c.new-moves.result.items ++ ms)) (sym c.new-parts.ensures.items)
      (subst (λ xs. AreStages c.args.builder.now new (plain_core c.args.core.now) (plain_plan c.args.plan.now) c.args.around.now c.args.ends.now c.args.begun.now (map plain_counter c.args.counters.now) (plain_stage_list c.args.stages.now) c.args.slots.now c.args.index c.args.number ps (xs ++ ls) (c.no_owners-owners.result.turns.items ++ rs) (c.no_owners-owners.result.kept.items ++ ks) (c.new-moves.result.items ++ ms)) (sym c.new-acted.ensures.items)
      (subst (λ xs. AreStages c.args.builder.now new (plain_core c.args.core.now) (plain_plan c.args.plan.now) c.args.around.now c.args.ends.now c.args.begun.now (map plain_counter c.args.counters.now) (plain_stage_list c.args.stages.now) c.args.slots.now c.args.index c.args.number ps ls (xs ++ rs) (c.no_owners-owners.result.kept.items ++ ks) (c.new-moves.result.items ++ ms)) (sym c.no_owners-owners.ensures.turns)
      (subst (λ xs. AreStages c.args.builder.now new (plain_core c.args.core.now) (plain_plan c.args.plan.now) c.args.around.now c.args.ends.now c.args.begun.now (map plain_counter c.args.counters.now) (plain_stage_list c.args.stages.now) c.args.slots.now c.args.index c.args.number ps ls rs (xs ++ ks) (c.new-moves.result.items ++ ms)) (sym c.no_owners-owners.ensures.kept)
      (subst (λ xs. AreStages c.args.builder.now new (plain_core c.args.core.now) (plain_plan c.args.plan.now) c.args.around.now c.args.ends.now c.args.begun.now (map plain_counter c.args.counters.now) (plain_stage_list c.args.stages.now) c.args.slots.now c.args.index c.args.number ps ls rs ks (xs ++ ms)) (sym c.new-moves.ensures.items) h)))),
)

pub emit_stages-offset_bounds-slots-at : goal.emit_stages-offset_bounds-slots-at
emit_stages-offset_bounds-slots-at t c =
    let inv = c.loop-stage.invariant in
    let below : c.loop-stage.at < length c.args.slots.now = (let e = inv.2 in let l = c.loop-stage-test.true in let s = c.requires.each in omega (arith, e, l, s)) in
    search rules

pub emit_stages-bounds-slots-at : goal.emit_stages-bounds-slots-at
emit_stages-bounds-slots-at t c =
    let inv = c.loop-stage.invariant in
    (let e = inv.2 in let l = c.loop-stage-test.true in let s = c.requires.each in omega (arith, e, l, s))

pub emit_stages-emit_stage-requires : goal.emit_stages-emit_stage-requires
emit_stages-emit_stage-requires t c =
    let inv = c.loop-stage.invariant in
    let below : c.loop-stage.at < length c.args.slots.now = (let e = inv.2 in let l = c.loop-stage-test.true in let s = c.requires.each in omega (arith, e, l, s)) in
    let cut = from_here c.args.stages.now c.loop-stage.stage-index c.stage-item.result _ c.loop-stage-test.true c.stage-item.is in
    let can = item_can c.args.builder.now c.loop-stage.builder c.loop-stage.builder (plain_core c.args.core.now) (plain_plan c.args.plan.now) c.args.around.now c.args.ends.now c.args.begun.now (map plain_counter c.args.counters.now) c.args.stages.now c.args.slots.now c.args.index c.args.number c.loop-stage.stage-index c.loop-stage.at c.loop-stage.second c.loop-stage.next 0 0 c.stage-item.result c.loop-stage.parts.items [] c.loop-stage.acted.items [] c.loop-stage.owners.turns.items [] c.loop-stage.owners.kept.items [] c.loop-stage.moves.items [] (record { child = record { start = 0; done = 0 }; first = 0; last = 0 }) [] [] [] [] inv cut in
    (search (rules, the_lemmas), (first_stage (plain_core c.args.core.now) (plain_plan c.args.plan.now) c.args.around.now c.args.ends.now (map plain_counter c.args.counters.now) c.stage-item.result.first c.stage-item.result.last c.stage-item.result.comb (plain_node c.stage-item.result.node) (plain_stage_list (drop (c.loop-stage.stage-index + 1) c.args.stages.now)) c.loop-stage.second c.loop-stage.next c.loop-stage.builder can, (inv.1, c.requires.slots c.loop-stage.at below)))

pub emit_stages-overflow_add-at : goal.emit_stages-overflow_add-at
emit_stages-overflow_add-at t c =
    let inv = c.loop-stage.invariant in
    let below : c.loop-stage.at < length c.args.slots.now = (let e = inv.2 in let l = c.loop-stage-test.true in let s = c.requires.each in omega (arith, e, l, s)) in
    search rules

pub emit_stages-count_nodes-second-requires : goal.emit_stages-count_nodes-second-requires
emit_stages-count_nodes-second-requires t c =
    let inv = c.loop-stage.invariant in
    let cut = from_here c.args.stages.now c.loop-stage.stage-index c.stage-item.result _ c.loop-stage-test.true c.stage-item.is in
    let can = item_can c.args.builder.now c.loop-stage.builder c.loop-stage.builder (plain_core c.args.core.now) (plain_plan c.args.plan.now) c.args.around.now c.args.ends.now c.args.begun.now (map plain_counter c.args.counters.now) c.args.stages.now c.args.slots.now c.args.index c.args.number c.loop-stage.stage-index c.loop-stage.at c.loop-stage.second c.loop-stage.next 0 0 c.stage-item.result c.loop-stage.parts.items [] c.loop-stage.acted.items [] c.loop-stage.owners.turns.items [] c.loop-stage.owners.kept.items [] c.loop-stage.moves.items [] (record { child = record { start = 0; done = 0 }; first = 0; last = 0 }) [] [] [] [] inv cut in
    (let h = can.nodes in omega (arith, h))

pub emit_stages-overflow_add-second : goal.emit_stages-overflow_add-second
emit_stages-overflow_add-second t c =
    let inv = c.loop-stage.invariant in
    let cut = from_here c.args.stages.now c.loop-stage.stage-index c.stage-item.result _ c.loop-stage-test.true c.stage-item.is in
    let can = item_can c.args.builder.now c.loop-stage.builder c.loop-stage.builder (plain_core c.args.core.now) (plain_plan c.args.plan.now) c.args.around.now c.args.ends.now c.args.begun.now (map plain_counter c.args.counters.now) c.args.stages.now c.args.slots.now c.args.index c.args.number c.loop-stage.stage-index c.loop-stage.at c.loop-stage.second c.loop-stage.next 0 0 c.stage-item.result c.loop-stage.parts.items [] c.loop-stage.acted.items [] c.loop-stage.owners.turns.items [] c.loop-stage.owners.kept.items [] c.loop-stage.moves.items [] (record { child = record { start = 0; done = 0 }; first = 0; last = 0 }) [] [] [] [] inv cut in
    (let h = can.nodes in let e = c.count_nodes-second.ensures in omega (arith, h, e))

pub emit_stages-count_numbers-next-requires : goal.emit_stages-count_numbers-next-requires
emit_stages-count_numbers-next-requires t c =
    let inv = c.loop-stage.invariant in
    let cut = from_here c.args.stages.now c.loop-stage.stage-index c.stage-item.result _ c.loop-stage-test.true c.stage-item.is in
    let can = item_can c.args.builder.now c.loop-stage.builder c.loop-stage.builder (plain_core c.args.core.now) (plain_plan c.args.plan.now) c.args.around.now c.args.ends.now c.args.begun.now (map plain_counter c.args.counters.now) c.args.stages.now c.args.slots.now c.args.index c.args.number c.loop-stage.stage-index c.loop-stage.at c.loop-stage.second c.loop-stage.next 0 0 c.stage-item.result c.loop-stage.parts.items [] c.loop-stage.acted.items [] c.loop-stage.owners.turns.items [] c.loop-stage.owners.kept.items [] c.loop-stage.moves.items [] (record { child = record { start = 0; done = 0 }; first = 0; last = 0 }) [] [] [] [] inv cut in
    (let h = can.numbers in omega (arith, h))

pub emit_stages-overflow_add-next : goal.emit_stages-overflow_add-next
emit_stages-overflow_add-next t c =
    let inv = c.loop-stage.invariant in
    let cut = from_here c.args.stages.now c.loop-stage.stage-index c.stage-item.result _ c.loop-stage-test.true c.stage-item.is in
    let can = item_can c.args.builder.now c.loop-stage.builder c.loop-stage.builder (plain_core c.args.core.now) (plain_plan c.args.plan.now) c.args.around.now c.args.ends.now c.args.begun.now (map plain_counter c.args.counters.now) c.args.stages.now c.args.slots.now c.args.index c.args.number c.loop-stage.stage-index c.loop-stage.at c.loop-stage.second c.loop-stage.next 0 0 c.stage-item.result c.loop-stage.parts.items [] c.loop-stage.acted.items [] c.loop-stage.owners.turns.items [] c.loop-stage.owners.kept.items [] c.loop-stage.moves.items [] (record { child = record { start = 0; done = 0 }; first = 0; last = 0 }) [] [] [] [] inv cut in
    (let h = can.numbers in let e = c.count_numbers-next.ensures in omega (arith, h, e))

pub emit_stages-loop-stage-preserved : goal.emit_stages-loop-stage-preserved
emit_stages-loop-stage-preserved t c =
    let inv = c.loop-stage.invariant in
    let low : c.loop-stage.stage-index < length c.args.slots.now = (let l = c.loop-stage-test.true in let s = c.requires.each in omega (arith, l, s)) in
    let cut = from_here c.args.stages.now c.loop-stage.stage-index c.stage-item.result _ c.loop-stage-test.true c.stage-item.is in
    stages_step c.args.builder.now c.loop-stage.builder c.emit_stage.new.builder (plain_core c.args.core.now) (plain_plan c.args.plan.now) c.args.around.now c.args.ends.now c.args.begun.now (map plain_counter c.args.counters.now) c.args.stages.now c.args.slots.now c.args.index c.args.number c.loop-stage.stage-index c.loop-stage.at c.loop-stage.second c.loop-stage.next c.count_nodes-second.result c.count_numbers-next.result c.stage-item.result c.loop-stage.parts.items c.push.new.self.items c.loop-stage.acted.items c.append.new.all.items c.loop-stage.owners.turns.items c.in_ok-owners.owners.turns.items c.loop-stage.owners.kept.items c.in_ok-owners.owners.kept.items c.loop-stage.moves.items c.append_moves.new.all.items c.in_ok-one.one.part c.in_ok-one.one.acted.items c.in_ok-one.one.owners.turns.items c.in_ok-one.one.owners.kept.items c.in_ok-one.one.moves.items inv cut low c.count_nodes-second.ensures c.count_numbers-next.ensures c.in_ok-one.ensures c.in_ok-push.ensures.items c.in_ok-append.ensures c.in_ok-owners.ensures.turns c.in_ok-owners.ensures.kept c.in_ok-append_moves.ensures

pub emit_stages-returns : goal.emit_stages-returns
emit_stages-returns t c =
    let inv = c.loop-stage.invariant in
    let over : length c.args.stages.now ≤ c.loop-stage.stage-index = (let f = c.loop-stage-test.false in omega (arith, f)) in
    let over_slots : length c.args.slots.now ≤ c.loop-stage.stage-index = (let s = c.requires.each in let o = over in omega (arith, s, o)) in
    let none = subst (λ xs. AreStages c.loop-stage.builder c.loop-stage.builder (plain_core c.args.core.now) (plain_plan c.args.plan.now) c.args.around.now c.args.ends.now c.args.begun.now (map plain_counter c.args.counters.now) (plain_stage_list xs) (drop c.loop-stage.stage-index c.args.slots.now) c.loop-stage.second c.loop-stage.next [] [] [] [] []) (sym (drop_past c.args.stages.now c.loop-stage.stage-index over)) (subst (λ xs. AreStages c.loop-stage.builder c.loop-stage.builder (plain_core c.args.core.now) (plain_plan c.args.plan.now) c.args.around.now c.args.ends.now c.args.begun.now (map plain_counter c.args.counters.now) no_stage xs c.loop-stage.second c.loop-stage.next [] [] [] [] []) (sym (drop_past c.args.slots.now c.loop-stage.stage-index over_slots)) (no_stages c.loop-stage.builder (plain_core c.args.core.now) (plain_plan c.args.plan.now) c.args.around.now c.args.ends.now c.args.begun.now (map plain_counter c.args.counters.now) c.loop-stage.second c.loop-stage.next)) in
    subst (λ xs. AreStages c.args.builder.now c.loop-stage.builder (plain_core c.args.core.now) (plain_plan c.args.plan.now) c.args.around.now c.args.ends.now c.args.begun.now (map plain_counter c.args.counters.now) (plain_stage_list c.args.stages.now) c.args.slots.now c.args.index c.args.number xs c.loop-stage.acted.items c.loop-stage.owners.turns.items c.loop-stage.owners.kept.items c.loop-stage.moves.items) (append-nil c.loop-stage.parts.items)
    (subst (λ xs. AreStages c.args.builder.now c.loop-stage.builder (plain_core c.args.core.now) (plain_plan c.args.plan.now) c.args.around.now c.args.ends.now c.args.begun.now (map plain_counter c.args.counters.now) (plain_stage_list c.args.stages.now) c.args.slots.now c.args.index c.args.number (c.loop-stage.parts.items ++ []) xs c.loop-stage.owners.turns.items c.loop-stage.owners.kept.items c.loop-stage.moves.items) (append-nil c.loop-stage.acted.items)
    (subst (λ xs. AreStages c.args.builder.now c.loop-stage.builder (plain_core c.args.core.now) (plain_plan c.args.plan.now) c.args.around.now c.args.ends.now c.args.begun.now (map plain_counter c.args.counters.now) (plain_stage_list c.args.stages.now) c.args.slots.now c.args.index c.args.number (c.loop-stage.parts.items ++ []) (c.loop-stage.acted.items ++ []) xs c.loop-stage.owners.kept.items c.loop-stage.moves.items) (append-nil c.loop-stage.owners.turns.items)
    (subst (λ xs. AreStages c.args.builder.now c.loop-stage.builder (plain_core c.args.core.now) (plain_plan c.args.plan.now) c.args.around.now c.args.ends.now c.args.begun.now (map plain_counter c.args.counters.now) (plain_stage_list c.args.stages.now) c.args.slots.now c.args.index c.args.number (c.loop-stage.parts.items ++ []) (c.loop-stage.acted.items ++ []) (c.loop-stage.owners.turns.items ++ []) xs c.loop-stage.moves.items) (append-nil c.loop-stage.owners.kept.items)
    (subst (λ xs. AreStages c.args.builder.now c.loop-stage.builder (plain_core c.args.core.now) (plain_plan c.args.plan.now) c.args.around.now c.args.ends.now c.args.begun.now (map plain_counter c.args.counters.now) (plain_stage_list c.args.stages.now) c.args.slots.now c.args.index c.args.number (c.loop-stage.parts.items ++ []) (c.loop-stage.acted.items ++ []) (c.loop-stage.owners.turns.items ++ []) (c.loop-stage.owners.kept.items ++ []) xs) (append-nil c.loop-stage.moves.items) (inv.3 c.loop-stage.builder [] [] [] [] [] none)))))

pub emit_node-emit_loop-requires : goal.emit_node-emit_loop-requires
emit_node-emit_loop-requires t c =
    let is = ap plain_node c.in-Outer.is ∙ plain_outer c.in-Outer.counters c.in-Outer.style c.in-Outer.owned c.in-Outer.stages in
    let stages = ap plain_stage_list c.deref-in-Outer.ensures.value in
    let counters = ap (λ xs. map plain_counter xs) c.deref-in-Outer-2.ensures.value in
    let can : CanEmitLoop c.args.builder.now (plain_core c.args.core.now) (plain_plan c.args.plan.now) c.args.around.now c.args.ends.now (map plain_counter c.in-Outer.counters.items) c.in-Outer.owned.items (plain_stage_list c.in-Outer.stages.items) c.args.index c.args.number = record { style = c.in-Outer.style; can = subst (λ v. CanEmit c.args.builder.now (plain_core c.args.core.now) (plain_plan c.args.plan.now) c.args.around.now c.args.ends.now v c.args.index c.args.number) is c.requires.can } in
    (search (rules, the_lemmas), (subst (λ xs. CanEmitLoop c.args.builder.now (plain_core c.args.core.now) (plain_plan c.args.plan.now) c.args.around.now c.args.ends.now xs c.deref-in-Outer-3.result.now (plain_stage_list c.deref-in-Outer.result.now) c.args.index c.args.number) (sym counters) (subst (λ xs. CanEmitLoop c.args.builder.now (plain_core c.args.core.now) (plain_plan c.args.plan.now) c.args.around.now c.args.ends.now (map plain_counter c.in-Outer.counters.items) c.deref-in-Outer-3.result.now xs c.args.index c.args.number) (sym stages) (subst (λ xs. CanEmitLoop c.args.builder.now (plain_core c.args.core.now) (plain_plan c.args.plan.now) c.args.around.now c.args.ends.now (map plain_counter c.in-Outer.counters.items) xs (plain_stage_list c.in-Outer.stages.items) c.args.index c.args.number) (sym c.deref-in-Outer-3.ensures.value) can)), c.requires.start))

pub emit_node-returns-in_ok-tree-in-Outer-clause-tree : goal.emit_node-returns-in_ok-tree-in-Outer-clause-tree
emit_node-returns-in_ok-tree-in-Outer-clause-tree t c =
    let is = ap plain_node c.in-Outer.is ∙ plain_outer c.in-Outer.counters c.in-Outer.style c.in-Outer.owned c.in-Outer.stages in
    let stages = ap plain_stage_list c.deref-in-Outer.ensures.value in
    let counters = ap (λ xs. map plain_counter xs) c.deref-in-Outer-2.ensures.value in
    subst (λ v. IsTree c.args.builder.now c.emit_loop.new.builder (plain_core c.args.core.now) (plain_plan c.args.plan.now) c.args.around.now c.args.ends.now v c.args.index c.args.number c.in_ok-tree-in-Outer.tree.child c.in_ok-tree-in-Outer.tree.acted.items c.in_ok-tree-in-Outer.tree.owners.turns.items c.in_ok-tree-in-Outer.tree.owners.kept.items c.in_ok-tree-in-Outer.tree.moves.items) (sym is)
    (subst (λ xs. IsLoopTree c.args.builder.now c.emit_loop.new.builder (plain_core c.args.core.now) (plain_plan c.args.plan.now) c.args.around.now c.args.ends.now (map plain_counter c.in-Outer.counters.items) xs (plain_stage_list c.in-Outer.stages.items) c.args.index c.args.number c.in_ok-tree-in-Outer.tree.child c.in_ok-tree-in-Outer.tree.acted.items c.in_ok-tree-in-Outer.tree.owners.turns.items c.in_ok-tree-in-Outer.tree.owners.kept.items c.in_ok-tree-in-Outer.tree.moves.items) c.deref-in-Outer-3.ensures.value
    (subst (λ xs. IsLoopTree c.args.builder.now c.emit_loop.new.builder (plain_core c.args.core.now) (plain_plan c.args.plan.now) c.args.around.now c.args.ends.now (map plain_counter c.in-Outer.counters.items) c.deref-in-Outer-3.result.now xs c.args.index c.args.number c.in_ok-tree-in-Outer.tree.child c.in_ok-tree-in-Outer.tree.acted.items c.in_ok-tree-in-Outer.tree.owners.turns.items c.in_ok-tree-in-Outer.tree.owners.kept.items c.in_ok-tree-in-Outer.tree.moves.items) stages
    (subst (λ xs. IsLoopTree c.args.builder.now c.emit_loop.new.builder (plain_core c.args.core.now) (plain_plan c.args.plan.now) c.args.around.now c.args.ends.now xs c.deref-in-Outer-3.result.now (plain_stage_list c.deref-in-Outer.result.now) c.args.index c.args.number c.in_ok-tree-in-Outer.tree.child c.in_ok-tree-in-Outer.tree.acted.items c.in_ok-tree-in-Outer.tree.owners.turns.items c.in_ok-tree-in-Outer.tree.owners.kept.items c.in_ok-tree-in-Outer.tree.moves.items) counters c.in_ok-tree-in-Outer.ensures.tree)) c.in-Outer.style)

pub emit_node-returns-in_ok-tree-in-Outer-clause-lists : goal.emit_node-returns-in_ok-tree-in-Outer-clause-lists
emit_node-returns-in_ok-tree-in-Outer-clause-lists t c =
    let is = ap plain_node c.in-Outer.is ∙ plain_outer c.in-Outer.counters c.in-Outer.style c.in-Outer.owned c.in-Outer.stages in
    let stages = ap plain_stage_list c.deref-in-Outer.ensures.value in
    let counters = ap (λ xs. map plain_counter xs) c.deref-in-Outer-2.ensures.value in
    subst (λ v. AreListsStanding c.emit_loop.new.builder (plain_core c.args.core.now) (lists_in v c.args.number) c.in_ok-tree-in-Outer.tree.acted.items) (sym is)
    (subst (λ xs. AreListsStanding c.emit_loop.new.builder (plain_core c.args.core.now) (lists_of_loop (map plain_counter c.in-Outer.counters.items) xs c.args.number) c.in_ok-tree-in-Outer.tree.acted.items) stages
    (subst (λ xs. AreListsStanding c.emit_loop.new.builder (plain_core c.args.core.now) (lists_of_loop xs (plain_stage_list c.deref-in-Outer.result.now) c.args.number) c.in_ok-tree-in-Outer.tree.acted.items) counters c.in_ok-tree-in-Outer.ensures.lists))

pub emit_node-emit_slice-requires-clause-right : goal.emit_node-emit_slice-requires-clause-right
emit_node-emit_slice-requires-clause-right t c =
    let is = ap plain_node c.in-Load.is in
    subst (λ xs. AreSpansRight c.args.builder.now c.args.around.now (map plain_span xs)) (sym c.deref-in-Load.ensures.value)
    (slice_right c.args.builder.now (plain_core c.args.core.now) (plain_plan c.args.plan.now) c.args.around.now c.args.ends.now (plain_node c.args.node.now) Load c.in-Load.dram c.in-Load.mem (map plain_span c.in-Load.span.items) c.args.index c.args.number is c.requires.can)

pub emit_node-returns-in_ok-tree-in-Load-clause-owners : goal.emit_node-returns-in_ok-tree-in-Load-clause-owners
emit_node-returns-in_ok-tree-in-Load-clause-owners t c =
    c.in_ok-tree-in-Load.ensures.owners (plain_core c.args.core.now)

pub emit_node-returns-in_ok-tree-in-Load-clause-tree : goal.emit_node-returns-in_ok-tree-in-Load-clause-tree
emit_node-returns-in_ok-tree-in-Load-clause-tree t c =
    let is = ap plain_node c.in-Load.is in
    let tree = c.in_ok-tree-in-Load.tree in
    subst (λ v. IsTree c.args.builder.now c.emit_slice.new.builder (plain_core c.args.core.now) (plain_plan c.args.plan.now) c.args.around.now c.args.ends.now v c.args.index c.args.number tree.child tree.acted.items tree.owners.turns.items tree.owners.kept.items tree.moves.items) (sym is)
    (subst (λ xs. IsTree c.args.builder.now c.emit_slice.new.builder (plain_core c.args.core.now) (plain_plan c.args.plan.now) c.args.around.now c.args.ends.now (transfer_node Load c.in-Load.dram c.in-Load.mem (map plain_span xs)) c.args.index c.args.number tree.child tree.acted.items tree.owners.turns.items tree.owners.kept.items tree.moves.items) c.deref-in-Load.ensures.value
    (c.in_ok-tree-in-Load.ensures.tree (plain_core c.args.core.now) (plain_plan c.args.plan.now) Load c.in-Load.dram c.in-Load.mem))

pub emit_node-returns-in_ok-tree-in-Load-clause-moves : goal.emit_node-returns-in_ok-tree-in-Load-clause-moves
emit_node-returns-in_ok-tree-in-Load-clause-moves t c =
    let is = ap plain_node c.in-Load.is in
    let moves = c.in_ok-tree-in-Load.tree.moves.items in
    subst (λ v. AreMovesStanding c.emit_slice.new.builder (slices_in v c.args.index) moves) (sym is)
    (subst (λ xs. AreMovesStanding c.emit_slice.new.builder (slices_in (transfer_node Load c.in-Load.dram c.in-Load.mem (map plain_span xs)) c.args.index) moves) c.deref-in-Load.ensures.value (c.in_ok-tree-in-Load.ensures.moves Load c.in-Load.dram c.in-Load.mem))

pub emit_node-emit_slice-requires-in-Store-clause-right : goal.emit_node-emit_slice-requires-in-Store-clause-right
emit_node-emit_slice-requires-in-Store-clause-right t c =
    let is = ap plain_node c.in-Store.is in
    subst (λ xs. AreSpansRight c.args.builder.now c.args.around.now (map plain_span xs)) (sym c.deref-in-Store.ensures.value)
    (slice_right c.args.builder.now (plain_core c.args.core.now) (plain_plan c.args.plan.now) c.args.around.now c.args.ends.now (plain_node c.args.node.now) Store c.in-Store.dram c.in-Store.mem (map plain_span c.in-Store.span.items) c.args.index c.args.number is c.requires.can)

pub emit_node-returns-in_ok-tree-in-Store-clause-owners : goal.emit_node-returns-in_ok-tree-in-Store-clause-owners
emit_node-returns-in_ok-tree-in-Store-clause-owners t c =
    c.in_ok-tree-in-Store.ensures.owners (plain_core c.args.core.now)

pub emit_node-returns-in_ok-tree-in-Store-clause-tree : goal.emit_node-returns-in_ok-tree-in-Store-clause-tree
emit_node-returns-in_ok-tree-in-Store-clause-tree t c =
    let is = ap plain_node c.in-Store.is in
    let tree = c.in_ok-tree-in-Store.tree in
    subst (λ v. IsTree c.args.builder.now c.emit_slice-in-Store.new.builder (plain_core c.args.core.now) (plain_plan c.args.plan.now) c.args.around.now c.args.ends.now v c.args.index c.args.number tree.child tree.acted.items tree.owners.turns.items tree.owners.kept.items tree.moves.items) (sym is)
    (subst (λ xs. IsTree c.args.builder.now c.emit_slice-in-Store.new.builder (plain_core c.args.core.now) (plain_plan c.args.plan.now) c.args.around.now c.args.ends.now (transfer_node Store c.in-Store.dram c.in-Store.mem (map plain_span xs)) c.args.index c.args.number tree.child tree.acted.items tree.owners.turns.items tree.owners.kept.items tree.moves.items) c.deref-in-Store.ensures.value
    (c.in_ok-tree-in-Store.ensures.tree (plain_core c.args.core.now) (plain_plan c.args.plan.now) Store c.in-Store.dram c.in-Store.mem))

pub emit_node-returns-in_ok-tree-in-Store-clause-moves : goal.emit_node-returns-in_ok-tree-in-Store-clause-moves
emit_node-returns-in_ok-tree-in-Store-clause-moves t c =
    let is = ap plain_node c.in-Store.is in
    let moves = c.in_ok-tree-in-Store.tree.moves.items in
    subst (λ v. AreMovesStanding c.emit_slice-in-Store.new.builder (slices_in v c.args.index) moves) (sym is)
    (subst (λ xs. AreMovesStanding c.emit_slice-in-Store.new.builder (slices_in (transfer_node Store c.in-Store.dram c.in-Store.mem (map plain_span xs)) c.args.index) moves) c.deref-in-Store.ensures.value (c.in_ok-tree-in-Store.ensures.moves Store c.in-Store.dram c.in-Store.mem))

pub emit_node-returns-in_ok-tree-in-Outer-clause-moves : goal.emit_node-returns-in_ok-tree-in-Outer-clause-moves
emit_node-returns-in_ok-tree-in-Outer-clause-moves t c =
    let is = ap plain_node c.in-Outer.is ∙ plain_outer c.in-Outer.counters c.in-Outer.style c.in-Outer.owned c.in-Outer.stages in
    let stages = ap plain_stage_list c.deref-in-Outer.ensures.value in
    let moves = c.in_ok-tree-in-Outer.tree.moves.items in
    loop_stands c.emit_loop.new.builder (plain_node c.args.node.now) (map plain_counter c.in-Outer.counters.items) c.in-Outer.style c.in-Outer.owned.items (plain_stage_list c.in-Outer.stages.items) c.args.index is moves
    (subst (λ xs. AreMovesStanding c.emit_loop.new.builder (slices_in_stages xs (c.args.index + 1)) moves) stages c.in_ok-tree-in-Outer.ensures.moves)

pub emit_loop-emit_stages-requires : goal.emit_loop-emit_stages-requires
emit_loop-emit_stages-requires t c =
    let can = c.requires.can.can in
    let have = can.places.0 in
    let pe = c.node_plan-planned.ensures in
    let slots_are : c.stage_slots-slots.result.now ≡ slot_numbers (node_plan (plain_plan c.args.plan.now) c.args.index) = c.stage_slots-slots.ensures ∙ ap slot_numbers pe in
    let places_are : (places_of c.in_ok-places.places.items) ≡ arranged (slots_of (node_plan (plain_plan c.args.plan.now) c.args.index)) = c.in_ok-places.ensures.places ∙ ap (λ p. arranged (slots_of p)) pe in
    let placed : AreArranged (places_of c.in_ok-places.places.items) (slots_of (node_plan (plain_plan c.args.plan.now) c.args.index)) = subst (λ x. AreArranged x (slots_of (node_plan (plain_plan c.args.plan.now) c.args.index))) (sym places_are) have.places in
    let long : length c.in_ok-begun.begun.rows.rows.items ≡ length (places_of c.in_ok-places.places.items) = (let a = c.in_ok-begun.ensures.each in let b = c.len.ensures in let v = c.in_ok-places.places.ok.0 in let m = length-map c.in_ok-places.places.items (λ (slot : PlacedSlot). chains_in slot.chains.items) in omega (arith, a, b, v, m)) in
    let many : length c.stage_slots-slots.result.now ≡ length (slots_of (node_plan (plain_plan c.args.plan.now) c.args.index)) = ap (λ xs. length xs) c.stage_slots-slots.ensures ∙ c.in_ok-places.ensures.each ∙ ap (λ p. length (slots_of p)) pe in
    (search (rules, the_lemmas), (subst (λ x. CanEmitStages c.open_loop.new.builder (plain_core c.args.core.now) (plain_plan c.args.plan.now) c.args.around.now c.args.ends.now (map plain_counter c.args.counters.now) (plain_stage_list c.args.stages.now) (c.args.index + 1) (c.args.number + x)) (sym c.counters_size.ensures) (loop_stages c.args.builder.now (plain_core c.args.core.now) (plain_plan c.args.plan.now) c.args.around.now c.args.ends.now (map plain_counter c.args.counters.now) c.requires.can.style c.args.owned.now (plain_stage_list c.args.stages.now) c.args.index c.args.number can c.open_loop.new.builder c.in_ok-begun.ensures.reserves.grows), (record { rows = subst (λ w. AreRows c.open_loop.new.builder w c.in_ok-begun.begun.rows.rows.items) c.in_ok-begun.ensures.wires c.in_ok-begun.ensures.rows; long = subst (λ w. AreAsLong (length w) c.in_ok-begun.begun.rows.rows.items) c.in_ok-begun.ensures.wires c.in_ok-begun.ensures.long; masks = λ x h. (c.in_ok-begun.ensures.lanes x h).1 }, (many ∙ have.size ∙ stages_counted c.args.stages.now, λ m lt. subst (λ xs. slice_index xs m < length c.in_ok-begun.begun.rows.rows.items) (sym slots_are) (slot_in (node_plan (plain_plan c.args.plan.now) c.args.index) (places_of c.in_ok-places.places.items) (length c.in_ok-begun.begun.rows.rows.items) placed long m (let q = many in omega (arith, lt, q)))))))

pub emit_loop-close_loop-requires : goal.emit_loop-close_loop-requires
emit_loop-close_loop-requires t c =
    let can = c.requires.can.can in
    let have = can.places.0 in
    let pe = c.node_plan-planned.ensures in
    let slots_are : c.stage_slots-slots.result.now ≡ slot_numbers (node_plan (plain_plan c.args.plan.now) c.args.index) = c.stage_slots-slots.ensures ∙ ap slot_numbers pe in
    let places_are : (places_of c.in_ok-places.places.items) ≡ arranged (slots_of (node_plan (plain_plan c.args.plan.now) c.args.index)) = c.in_ok-places.ensures.places ∙ ap (λ p. arranged (slots_of p)) pe in
    let placed : AreArranged (places_of c.in_ok-places.places.items) (slots_of (node_plan (plain_plan c.args.plan.now) c.args.index)) = subst (λ x. AreArranged x (slots_of (node_plan (plain_plan c.args.plan.now) c.args.index))) (sym places_are) have.places in
    let long : length c.in_ok-begun.begun.rows.rows.items ≡ length (places_of c.in_ok-places.places.items) = (let a = c.in_ok-begun.ensures.each in let b = c.len.ensures in let v = c.in_ok-places.places.ok.0 in let m = length-map c.in_ok-places.places.items (λ (slot : PlacedSlot). chains_in slot.chains.items) in omega (arith, a, b, v, m)) in
    let many : length c.stage_slots-slots.result.now ≡ length (slots_of (node_plan (plain_plan c.args.plan.now) c.args.index)) = ap (λ xs. length xs) c.stage_slots-slots.ensures ∙ c.in_ok-places.ensures.each ∙ ap (λ p. length (slots_of p)) pe in
    let st = subst (λ x. AreStages c.open_loop.new.builder c.emit_stages.new.builder (plain_core c.args.core.now) (plain_plan c.args.plan.now) c.args.around.now c.args.ends.now c.in_ok-begun.begun (map plain_counter c.args.counters.now) (plain_stage_list c.args.stages.now) c.stage_slots-slots.result.now (c.args.index + 1) (c.args.number + x) c.in_ok-inside.inside.parts.items c.in_ok-inside.inside.acted.items c.in_ok-inside.inside.owners.turns.items c.in_ok-inside.inside.owners.kept.items c.in_ok-inside.inside.moves.items) c.counters_size.ensures c.in_ok-inside.ensures in
    let rules_are = loop_rules c.args.builder.now (plain_core c.args.core.now) (plain_plan c.args.plan.now) c.args.around.now c.args.ends.now (map plain_counter c.args.counters.now) c.requires.can.style c.args.owned.now (plain_stage_list c.args.stages.now) c.args.index c.args.number can in
    subst (λ xs. LoopFits c.emit_stages.new.builder c.in_ok-begun.begun xs (places_of c.deref-2.result.now)) (sym c.deref.ensures.value) (subst (λ xs. LoopFits c.emit_stages.new.builder c.in_ok-begun.begun c.in_ok-inside.inside.parts.items (places_of xs)) (sym c.deref-2.ensures.value) (c.loops_fit.ensures c.emit_stages.new.builder (map plain_counter c.args.counters.now) (plain_stage_list c.args.stages.now) c.in_ok-begun.begun c.in_ok-inside.inside.parts.items (places_of c.in_ok-places.places.items) _ _ (loop_parts c.args.builder.now c.open_loop.new.builder c.emit_stages.new.builder (plain_core c.args.core.now) (plain_plan c.args.plan.now) c.args.around.now c.args.ends.now c.in_ok-begun.begun (map plain_counter c.args.counters.now) (plain_stage_list c.args.stages.now) c.stage_slots-slots.result.now c.args.index c.args.number c.in_ok-begun.begun.acted.items c.in_ok-inside.inside.parts.items c.in_ok-inside.inside.acted.items c.in_ok-inside.inside.owners.turns.items c.in_ok-inside.inside.owners.kept.items c.in_ok-inside.inside.moves.items c.in_ok-begun.ensures.reserves st rules_are.1 c.single_lanes_are_first.ensures c.in_ok-begun.ensures.lanes c.in_ok-begun.ensures.wires c.in_ok-begun.ensures.rows rules_are.0 c.in_ok-begun.ensures.counted c.in_ok-begun.ensures.long) (subst (λ x. HasNet c.emit_stages.new.builder x 1) (sym c.in_ok-begun.ensures.start) (HasNet-stays _ _ _ _ (Grows-join _ _ _ c.in_ok-begun.ensures.reserves.grows st.reserves.grows) c.requires.start)) (HasNet-stays _ _ _ _ st.reserves.grows c.in_ok-begun.ensures.counted.more) (stay c.open_loop.new.builder c.emit_stages.new.builder c.in_ok-begun.begun.part.step 1 st.nets c.in_ok-begun.ensures.step st.reserves) (all_reserved c.args.builder.now c.open_loop.new.builder c.emit_stages.new.builder (plain_core c.args.core.now) (plain_plan c.args.plan.now) c.args.around.now c.args.ends.now c.in_ok-begun.begun (map plain_counter c.args.counters.now) (plain_stage_list c.args.stages.now) c.stage_slots-slots.result.now c.args.index c.args.number c.in_ok-begun.begun.acted.items c.in_ok-inside.inside.parts.items c.in_ok-inside.inside.acted.items c.in_ok-inside.inside.owners.turns.items c.in_ok-inside.inside.owners.kept.items c.in_ok-inside.inside.moves.items c.in_ok-begun.ensures.reserves st).rise (is_one _ _ _ (all_divided c.args.builder.now c.open_loop.new.builder c.emit_stages.new.builder (plain_core c.args.core.now) (plain_plan c.args.plan.now) c.args.around.now c.args.ends.now c.in_ok-begun.begun (map plain_counter c.args.counters.now) (plain_stage_list c.args.stages.now) c.stage_slots-slots.result.now c.args.index c.args.number c.in_ok-begun.begun.acted.items c.in_ok-inside.inside.parts.items c.in_ok-inside.inside.acted.items c.in_ok-inside.inside.owners.turns.items c.in_ok-inside.inside.owners.kept.items c.in_ok-inside.inside.moves.items c.in_ok-begun.ensures.reserves st)) (subst (λ x. StandOnce x (places_of c.in_ok-places.places.items)) (ap (λ p. length (slots_of p)) pe ∙ have.size ∙ sym st.each) c.in_ok-places.ensures.once) long))

pub emit_loop-returns-clause-reserves : goal.emit_loop-returns-clause-reserves
emit_loop-returns-clause-reserves t c =
    let can = c.requires.can.can in
    let have = can.places.0 in
    let pe = c.node_plan-planned.ensures in
    let slots_are : c.stage_slots-slots.result.now ≡ slot_numbers (node_plan (plain_plan c.args.plan.now) c.args.index) = c.stage_slots-slots.ensures ∙ ap slot_numbers pe in
    let places_are : (places_of c.in_ok-places.places.items) ≡ arranged (slots_of (node_plan (plain_plan c.args.plan.now) c.args.index)) = c.in_ok-places.ensures.places ∙ ap (λ p. arranged (slots_of p)) pe in
    let placed : AreArranged (places_of c.in_ok-places.places.items) (slots_of (node_plan (plain_plan c.args.plan.now) c.args.index)) = subst (λ x. AreArranged x (slots_of (node_plan (plain_plan c.args.plan.now) c.args.index))) (sym places_are) have.places in
    let long : length c.in_ok-begun.begun.rows.rows.items ≡ length (places_of c.in_ok-places.places.items) = (let a = c.in_ok-begun.ensures.each in let b = c.len.ensures in let v = c.in_ok-places.places.ok.0 in let m = length-map c.in_ok-places.places.items (λ (slot : PlacedSlot). chains_in slot.chains.items) in omega (arith, a, b, v, m)) in
    let many : length c.stage_slots-slots.result.now ≡ length (slots_of (node_plan (plain_plan c.args.plan.now) c.args.index)) = ap (λ xs. length xs) c.stage_slots-slots.ensures ∙ c.in_ok-places.ensures.each ∙ ap (λ p. length (slots_of p)) pe in
    let st = subst (λ x. AreStages c.open_loop.new.builder c.emit_stages.new.builder (plain_core c.args.core.now) (plain_plan c.args.plan.now) c.args.around.now c.args.ends.now c.in_ok-begun.begun (map plain_counter c.args.counters.now) (plain_stage_list c.args.stages.now) c.stage_slots-slots.result.now (c.args.index + 1) (c.args.number + x) c.in_ok-inside.inside.parts.items c.in_ok-inside.inside.acted.items c.in_ok-inside.inside.owners.turns.items c.in_ok-inside.inside.owners.kept.items c.in_ok-inside.inside.moves.items) c.counters_size.ensures c.in_ok-inside.ensures in
    let fills = subst (λ xs. Fills c.emit_stages.new.builder c.close_loop.new.builder (row_nets c.in_ok-begun.begun.rows.rows.items ++ (starts_in xs ++ c.in_ok-begun.begun.part.step ∷ []))) c.deref.ensures.value c.in_ok-closed.ensures.fills in
    loop_reserves c.args.builder.now c.open_loop.new.builder c.emit_stages.new.builder (plain_core c.args.core.now) (plain_plan c.args.plan.now) c.args.around.now c.args.ends.now c.in_ok-begun.begun (map plain_counter c.args.counters.now) (plain_stage_list c.args.stages.now) c.stage_slots-slots.result.now c.args.index c.args.number c.in_ok-begun.begun.acted.items c.in_ok-inside.inside.parts.items c.in_ok-inside.inside.acted.items c.in_ok-inside.inside.owners.turns.items c.in_ok-inside.inside.owners.kept.items c.in_ok-inside.inside.moves.items c.in_ok-begun.ensures.reserves st c.close_loop.new.builder c.in_ok-acted.acted.items c.in_ok-acted.ensures fills

pub emit_loop-returns-clause-tree : goal.emit_loop-returns-clause-tree
emit_loop-returns-clause-tree t c =
    let can = c.requires.can.can in
    let have = can.places.0 in
    let pe = c.node_plan-planned.ensures in
    let slots_are : c.stage_slots-slots.result.now ≡ slot_numbers (node_plan (plain_plan c.args.plan.now) c.args.index) = c.stage_slots-slots.ensures ∙ ap slot_numbers pe in
    let places_are : (places_of c.in_ok-places.places.items) ≡ arranged (slots_of (node_plan (plain_plan c.args.plan.now) c.args.index)) = c.in_ok-places.ensures.places ∙ ap (λ p. arranged (slots_of p)) pe in
    let placed : AreArranged (places_of c.in_ok-places.places.items) (slots_of (node_plan (plain_plan c.args.plan.now) c.args.index)) = subst (λ x. AreArranged x (slots_of (node_plan (plain_plan c.args.plan.now) c.args.index))) (sym places_are) have.places in
    let long : length c.in_ok-begun.begun.rows.rows.items ≡ length (places_of c.in_ok-places.places.items) = (let a = c.in_ok-begun.ensures.each in let b = c.len.ensures in let v = c.in_ok-places.places.ok.0 in let m = length-map c.in_ok-places.places.items (λ (slot : PlacedSlot). chains_in slot.chains.items) in omega (arith, a, b, v, m)) in
    let many : length c.stage_slots-slots.result.now ≡ length (slots_of (node_plan (plain_plan c.args.plan.now) c.args.index)) = ap (λ xs. length xs) c.stage_slots-slots.ensures ∙ c.in_ok-places.ensures.each ∙ ap (λ p. length (slots_of p)) pe in
    let st = subst (λ x. AreStages c.open_loop.new.builder c.emit_stages.new.builder (plain_core c.args.core.now) (plain_plan c.args.plan.now) c.args.around.now c.args.ends.now c.in_ok-begun.begun (map plain_counter c.args.counters.now) (plain_stage_list c.args.stages.now) c.stage_slots-slots.result.now (c.args.index + 1) (c.args.number + x) c.in_ok-inside.inside.parts.items c.in_ok-inside.inside.acted.items c.in_ok-inside.inside.owners.turns.items c.in_ok-inside.inside.owners.kept.items c.in_ok-inside.inside.moves.items) c.counters_size.ensures c.in_ok-inside.ensures in
    let rules_are = loop_rules c.args.builder.now (plain_core c.args.core.now) (plain_plan c.args.plan.now) c.args.around.now c.args.ends.now (map plain_counter c.args.counters.now) c.requires.can.style c.args.owned.now (plain_stage_list c.args.stages.now) c.args.index c.args.number can in
    let fills = subst (λ xs. Fills c.emit_stages.new.builder c.close_loop.new.builder (row_nets c.in_ok-begun.begun.rows.rows.items ++ (starts_in xs ++ c.in_ok-begun.begun.part.step ∷ []))) c.deref.ensures.value c.in_ok-closed.ensures.fills in
    let closed = subst (λ xs. IsClosed c.close_loop.new.builder c.in_ok-begun.begun xs (places_of c.in_ok-places.places.items) c.in_ok-closed.closed.nets.items c.in_ok-closed.closed.done) c.deref.ensures.value (subst (λ xs. IsClosed c.close_loop.new.builder c.in_ok-begun.begun c.deref.result.now (places_of xs) c.in_ok-closed.closed.nets.items c.in_ok-closed.closed.done) c.deref-2.ensures.value c.in_ok-closed.ensures.closed) in
    let begins : c.in_ok-own.own.start ≡ c.in_ok-begun.begun.part.start = c.in_ok-own.ensures.start ∙ sym c.in_ok-begun.ensures.start in
    let firsts : c.in_ok-own.own.firsts.items ≡ c.in_ok-closed.closed.nets.items = c.in_ok-own.ensures.firsts ∙ c.deref-3.ensures.value in
    λ style.
    subst (λ x. IsTree c.args.builder.now c.close_loop.new.builder (plain_core c.args.core.now) (plain_plan c.args.plan.now) c.args.around.now c.args.ends.now (outer (map plain_counter c.args.counters.now) style c.args.owned.now (plain_stage_list c.args.stages.now)) c.args.index c.args.number (record { start = x; done = c.in_ok-closed.closed.done }) c.in_ok-acted.acted.items c.in_ok-owners.owners.turns.items c.in_ok-owners.owners.kept.items c.in_ok-inside.inside.moves.items) c.in_ok-begun.ensures.start
    (subst (λ xs. IsTree c.args.builder.now c.close_loop.new.builder (plain_core c.args.core.now) (plain_plan c.args.plan.now) c.args.around.now c.args.ends.now (outer (map plain_counter c.args.counters.now) style c.args.owned.now (plain_stage_list c.args.stages.now)) c.args.index c.args.number (record { start = c.in_ok-begun.begun.part.start; done = c.in_ok-closed.closed.done }) xs c.in_ok-owners.owners.turns.items c.in_ok-owners.owners.kept.items c.in_ok-inside.inside.moves.items) (sym c.in_ok-acted.ensures)
    (subst (λ xs. IsTree c.args.builder.now c.close_loop.new.builder (plain_core c.args.core.now) (plain_plan c.args.plan.now) c.args.around.now c.args.ends.now (outer (map plain_counter c.args.counters.now) style c.args.owned.now (plain_stage_list c.args.stages.now)) c.args.index c.args.number (record { start = c.in_ok-begun.begun.part.start; done = c.in_ok-closed.closed.done }) (c.in_ok-begun.begun.acted.items ++ c.in_ok-inside.inside.acted.items) xs c.in_ok-owners.owners.kept.items c.in_ok-inside.inside.moves.items) (sym c.in_ok-owners.ensures.turns)
    (subst (λ xs. IsTree c.args.builder.now c.close_loop.new.builder (plain_core c.args.core.now) (plain_plan c.args.plan.now) c.args.around.now c.args.ends.now (outer (map plain_counter c.args.counters.now) style c.args.owned.now (plain_stage_list c.args.stages.now)) c.args.index c.args.number (record { start = c.in_ok-begun.begun.part.start; done = c.in_ok-closed.closed.done }) (c.in_ok-begun.begun.acted.items ++ c.in_ok-inside.inside.acted.items) (c.in_ok-own.own ∷ c.in_ok-inside.inside.owners.turns.items) xs c.in_ok-inside.inside.moves.items) (sym c.in_ok-owners.ensures.kept)
    (loop_is c.args.builder.now c.open_loop.new.builder c.emit_stages.new.builder (plain_core c.args.core.now) (plain_plan c.args.plan.now) c.args.around.now c.args.ends.now c.in_ok-begun.begun (map plain_counter c.args.counters.now) (plain_stage_list c.args.stages.now) c.stage_slots-slots.result.now c.args.index c.args.number c.in_ok-begun.begun.acted.items c.in_ok-inside.inside.parts.items c.in_ok-inside.inside.acted.items c.in_ok-inside.inside.owners.turns.items c.in_ok-inside.inside.owners.kept.items c.in_ok-inside.inside.moves.items c.in_ok-begun.ensures.reserves st rules_are.1 c.single_lanes_are_first.ensures c.in_ok-begun.ensures.lanes c.in_ok-begun.ensures.wires c.in_ok-begun.ensures.rows c.close_loop.new.builder (places_of c.in_ok-places.places.items) c.in_ok-closed.closed.nets.items c.in_ok-closed.closed.done style c.args.owned.now c.in_ok-own.own begins c.in_ok-own.ensures.owned firsts fills.grows closed c.in_ok-begun.ensures.counts c.in_ok-begun.ensures.bounds long placed have.size slots_are c.members_are_circuits.ensures c.rows_take_words.ensures))))

pub emit_loop-returns-clause-lists : goal.emit_loop-returns-clause-lists
emit_loop-returns-clause-lists t c =
    let st = subst (λ x. AreStages c.open_loop.new.builder c.emit_stages.new.builder (plain_core c.args.core.now) (plain_plan c.args.plan.now) c.args.around.now c.args.ends.now c.in_ok-begun.begun (map plain_counter c.args.counters.now) (plain_stage_list c.args.stages.now) c.stage_slots-slots.result.now (c.args.index + 1) (c.args.number + x) c.in_ok-inside.inside.parts.items c.in_ok-inside.inside.acted.items c.in_ok-inside.inside.owners.turns.items c.in_ok-inside.inside.owners.kept.items c.in_ok-inside.inside.moves.items) c.counters_size.ensures c.in_ok-inside.ensures in
    let fills = subst (λ xs. Fills c.emit_stages.new.builder c.close_loop.new.builder (row_nets c.in_ok-begun.begun.rows.rows.items ++ (starts_in xs ++ c.in_ok-begun.begun.part.step ∷ []))) c.deref.ensures.value c.in_ok-closed.ensures.fills in
    let bounds = c.in_ok-begun.ensures.bounds in
    loop_lists_stand bounds.draft c.emit_stages.new.builder c.close_loop.new.builder (plain_core c.args.core.now) (map plain_counter c.args.counters.now) (plain_stage_list c.args.stages.now) c.args.number c.in_ok-begun.begun.acted.items c.in_ok-inside.inside.acted.items c.in_ok-acted.acted.items c.in_ok-acted.ensures (Grows-join _ _ _ bounds.grows (Grows-join _ _ _ st.reserves.grows fills.grows)) fills.grows bounds.lists st.lists

pub emit_loop-returns-clause-owners : goal.emit_loop-returns-clause-owners
emit_loop-returns-clause-owners t c =
    let closed = subst (λ xs. IsClosed c.close_loop.new.builder c.in_ok-begun.begun xs (places_of c.in_ok-places.places.items) c.in_ok-closed.closed.nets.items c.in_ok-closed.closed.done) c.deref.ensures.value (subst (λ xs. IsClosed c.close_loop.new.builder c.in_ok-begun.begun c.deref.result.now (places_of xs) c.in_ok-closed.closed.nets.items c.in_ok-closed.closed.done) c.deref-2.ensures.value c.in_ok-closed.ensures.closed) in
    let st = subst (λ x. AreStages c.open_loop.new.builder c.emit_stages.new.builder (plain_core c.args.core.now) (plain_plan c.args.plan.now) c.args.around.now c.args.ends.now c.in_ok-begun.begun (map plain_counter c.args.counters.now) (plain_stage_list c.args.stages.now) c.stage_slots-slots.result.now (c.args.index + 1) (c.args.number + x) c.in_ok-inside.inside.parts.items c.in_ok-inside.inside.acted.items c.in_ok-inside.inside.owners.turns.items c.in_ok-inside.inside.owners.kept.items c.in_ok-inside.inside.moves.items) c.counters_size.ensures c.in_ok-inside.ensures in
    let fills = subst (λ xs. Fills c.emit_stages.new.builder c.close_loop.new.builder (row_nets c.in_ok-begun.begun.rows.rows.items ++ (starts_in xs ++ c.in_ok-begun.begun.part.step ∷ []))) c.deref.ensures.value c.in_ok-closed.ensures.fills in
    let firsts : c.in_ok-own.own.firsts.items ≡ c.in_ok-closed.closed.nets.items = c.in_ok-own.ensures.firsts ∙ c.deref-3.ensures.value in
    let grown = Grows-join _ _ _ c.in_ok-begun.ensures.reserves.grows (Grows-join _ _ _ st.reserves.grows fills.grows) in
    let starts = subst (λ net. HasNet c.close_loop.new.builder net 1) (sym c.in_ok-own.ensures.start) (HasNet-stays _ _ _ 1 grown c.requires.start) in
    loop_owners_stand c.emit_stages.new.builder c.close_loop.new.builder (plain_core c.args.core.now) (c.in_ok-own.own ∷ []) c.in_ok-inside.inside.owners.turns.items c.in_ok-owners.owners.turns.items c.in_ok-inside.inside.owners.kept.items c.in_ok-owners.owners.kept.items c.in_ok-owners.ensures.turns c.in_ok-owners.ensures.kept fills.grows
    (own_stands c.close_loop.new.builder (plain_core c.args.core.now) c.in_ok-begun.begun c.in_ok-inside.inside.parts.items (places_of c.in_ok-places.places.items) c.in_ok-closed.closed.nets.items c.in_ok-closed.closed.done closed c.in_ok-own.own starts firsts) st.owners

pub emit_loop-returns-clause-moves : goal.emit_loop-returns-clause-moves
emit_loop-returns-clause-moves t c =
    let st = subst (λ x. AreStages c.open_loop.new.builder c.emit_stages.new.builder (plain_core c.args.core.now) (plain_plan c.args.plan.now) c.args.around.now c.args.ends.now c.in_ok-begun.begun (map plain_counter c.args.counters.now) (plain_stage_list c.args.stages.now) c.stage_slots-slots.result.now (c.args.index + 1) (c.args.number + x) c.in_ok-inside.inside.parts.items c.in_ok-inside.inside.acted.items c.in_ok-inside.inside.owners.turns.items c.in_ok-inside.inside.owners.kept.items c.in_ok-inside.inside.moves.items) c.counters_size.ensures c.in_ok-inside.ensures in
    let fills = subst (λ xs. Fills c.emit_stages.new.builder c.close_loop.new.builder (row_nets c.in_ok-begun.begun.rows.rows.items ++ (starts_in xs ++ c.in_ok-begun.begun.part.step ∷ []))) c.deref.ensures.value c.in_ok-closed.ensures.fills in
    moves_later c.emit_stages.new.builder c.close_loop.new.builder (slices_in_stages (plain_stage_list c.args.stages.now) (c.args.index + 1)) c.in_ok-inside.inside.moves.items fills.grows st.moved
