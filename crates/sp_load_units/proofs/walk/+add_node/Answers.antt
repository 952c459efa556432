use Rattle.std.proofs.Common.{◌≡◌, ◌+◌, [], ◌∷◌, drop, length, map, rules, All, refl, sym, ap, subst, ◌∙◌, arith}
use Rattle.std.proofs.lemmas.List.{drop_more, length-map}
use Rattle.sp_core.specs.declared.node.Node.{the_lemmas}
use Rattle.sp_core.specs.CoreParts.{plain_core}
use Rattle.sp_core.specs.Numbering.{counters_size, node_count, spans_size}
use Rattle.sp_core.specs.Plain.{plain_counter, plain_node, plain_op, plain_ops, plain_span}
use Rattle.sp_plan.proofs.Trees.{plain_outer}
use Rattle.sp_tree_handed.specs.declared.moves.Direction.TheVariants.{Load, Store}
use Rattle.sp_tree_handed.specs.Transfers.{core_transfer, transfers_in}
use Rattle.sp_load_units.specs.Units.{IsTransferOf}
use Rattle.sp_load_units.proofs.Nodes.{fork_begins, fork_goes, loop_begins, machine_begins, machine_ends, on_ok, on_ok_three, passes}
use Rattle.sp_load_units.proofs.Walking.{ended, enter, passed, stage_enters, stage_passed}
use Rattle.sp_load_units.proofs.walk.+add_node.Goals as goal

pub loop-stage-init : goal.loop-stage-init
loop-stage-init t c =
    let p = c.in_ok-pass-in-Outer.ensures in
    loop_begins (plain_core c.args.core.now) (plain_node c.args.node.now) c.args.builder.now c.args.walk.now c.pass-in-Outer.new.walk c.counters_size-numbers.result p.units p.ends p.number (map plain_counter c.in-Outer.counters.items) c.in-Outer.style c.in-Outer.owned.items c.in-Outer.stages.items
    c.deref-stage-items.result.now (ap plain_node c.in-Outer.is ∙ plain_outer c.in-Outer.counters c.in-Outer.style c.in-Outer.owned c.in-Outer.stages) c.deref-stage-items.ensures.value
    (c.counters_size-numbers.ensures ∙ ap (λ cs. counters_size (map plain_counter cs)) c.deref.ensures.value)

pub loop-stage-preserved : goal.loop-stage-preserved
loop-stage-preserved t c =
    let items = c.deref-stage-items.result.now in
    let i = c.loop-stage.stage-index in
    let cut = drop_more items i c.stage-item.result c.loop-stage-test.true ∙ ap (λ x. x ∷ drop (i + 1) items) (sym c.stage-item.is) in
    stage_passed (plain_core c.args.core.now) (plain_node c.args.node.now) c.args.builder.now c.args.walk.now c.loop-stage.builder c.add_node.new.builder c.loop-stage.walk c.add_node.new.walk c.stage-item.result (drop i items) (drop (i + 1) items) cut c.loop-stage.invariant
    c.in_ok-add_node-in-Outer.ensures.walked

pub add_node-requires : goal.add_node-requires
add_node-requires t c =
    let items = c.deref-stage-items.result.now in
    let i = c.loop-stage.stage-index in
    let cut = drop_more items i c.stage-item.result c.loop-stage-test.true ∙ ap (λ x. x ∷ drop (i + 1) items) (sym c.stage-item.is) in
    let can = stage_enters (plain_core c.args.core.now) (plain_node c.args.node.now) c.args.builder.now c.args.walk.now c.loop-stage.builder c.loop-stage.walk c.stage-item.result (drop i items) (drop (i + 1) items) cut
    (record { go = c.requires.go; transfers = c.requires.transfers; nodes = c.requires.nodes; numbers = c.requires.numbers }) c.loop-stage.invariant in
    (search (rules, the_lemmas), (can.go, (can.transfers, (can.nodes, can.numbers))))

pub add_node-requires-in-Fsm : goal.add_node-requires-in-Fsm
add_node-requires-in-Fsm t c =
    let core = plain_core c.args.core.now in
    let node = plain_node c.args.node.now in
    let before = c.args.walk.now in
    let p = c.in_ok-pass-in-Fsm.ensures in
    let start : c.len.result ≡ length c.in-Fsm.start.items = search rules in
    let test : c.len-in-Fsm.result ≡ length c.in-Fsm.test.items = search rules in
    let starts = length-map c.in-Fsm.start.items plain_op in
    let tests = length-map c.in-Fsm.test.items plain_op in
    let left = machine_begins core node c.args.builder.now before c.pass-in-Fsm.new.walk (c.len.result + c.len-in-Fsm.result) p.units p.ends p.number (plain_ops c.in-Fsm.start.items) c.in-Fsm.state (plain_ops c.in-Fsm.test.items) (plain_node c.in-Fsm.body.value) (plain_node c.deref-in-Fsm.result.now)
    (plain_ops c.in-Fsm.next.items) (ap plain_node c.in-Fsm.is) (ap plain_node c.deref-in-Fsm.ensures) (omega (arith, start, test, starts, tests)) in
    let can = enter core node c.args.builder.now before (plain_node c.deref-in-Fsm.result.now) c.args.builder.now c.pass-in-Fsm.new.walk [] 0 (length (plain_ops c.in-Fsm.next.items) + 0) (record { go = c.requires.go; transfers = c.requires.transfers; nodes = c.requires.nodes; numbers = c.requires.numbers }) left in
    (search (rules, the_lemmas), (can.go, (can.transfers, (can.nodes, can.numbers))))

pub add_node-requires-in-Branch : goal.add_node-requires-in-Branch
add_node-requires-in-Branch t c =
    let core = plain_core c.args.core.now in
    let node = plain_node c.args.node.now in
    let before = c.args.walk.now in
    let p = c.in_ok-pass-in-Branch.ensures in
    let test : c.len-in-Branch.result ≡ length c.in-Branch.test.items = search rules in
    let tests = length-map c.in-Branch.test.items plain_op in
    let left = fork_begins core node c.args.builder.now before c.pass-in-Branch.new.walk c.len-in-Branch.result p.units p.ends p.number (plain_ops c.in-Branch.test.items) (plain_node c.in-Branch.yes.value) (plain_node c.in-Branch.no.value) (plain_node c.deref-in-Branch.result.now) (plain_node c.in-Branch.no.value)
    (ap plain_node c.in-Branch.is) (ap plain_node c.deref-in-Branch.ensures) refl (omega (arith, test, tests)) in
    let can = enter core node c.args.builder.now before (plain_node c.deref-in-Branch.result.now) c.args.builder.now c.pass-in-Branch.new.walk _ _ _ (record { go = c.requires.go; transfers = c.requires.transfers; nodes = c.requires.nodes; numbers = c.requires.numbers }) left in
    (search (rules, the_lemmas), (can.go, (can.transfers, (can.nodes, can.numbers))))

pub add_node-requires-in-Branch-2 : goal.add_node-requires-in-Branch-2
add_node-requires-in-Branch-2 t c =
    let core = plain_core c.args.core.now in
    let node = plain_node c.args.node.now in
    let before = c.args.walk.now in
    let p = c.in_ok-pass-in-Branch.ensures in
    let test : c.len-in-Branch.result ≡ length c.in-Branch.test.items = search rules in
    let tests = length-map c.in-Branch.test.items plain_op in
    let left = fork_begins core node c.args.builder.now before c.pass-in-Branch.new.walk c.len-in-Branch.result p.units p.ends p.number (plain_ops c.in-Branch.test.items) (plain_node c.in-Branch.yes.value) (plain_node c.in-Branch.no.value) (plain_node c.deref-in-Branch.result.now) (plain_node c.deref-in-Branch-2.result.now)
    (ap plain_node c.in-Branch.is) (ap plain_node c.deref-in-Branch.ensures) (ap plain_node c.deref-in-Branch-2.ensures) (omega (arith, test, tests)) in
    let other = fork_goes core node c.args.builder.now before c.args.builder.now c.pass-in-Branch.new.walk (plain_node c.deref-in-Branch.result.now) (plain_node c.deref-in-Branch-2.result.now) c.add_node-in-Branch.new.builder c.add_node-in-Branch.new.walk left c.in_ok-add_node-in-Branch.ensures.walked in
    let can = enter core node c.args.builder.now before (plain_node c.deref-in-Branch-2.result.now) c.add_node-in-Branch.new.builder c.add_node-in-Branch.new.walk [] 0 0 (record { go = c.requires.go; transfers = c.requires.transfers; nodes = c.requires.nodes; numbers = c.requires.numbers }) other in
    (search (rules, the_lemmas), (can.go, (can.transfers, (can.nodes, can.numbers))))

pub add_one-requires-clause-transfer : goal.add_one-requires-clause-transfer
add_one-requires-clause-transfer t c =
    let core = plain_core c.args.core.now in
    let k = length c.args.walk.now.ends.items in
    let n = c.args.walk.now.number in
    let all = subst (λ v. All (IsTransferOf core) (transfers_in v k n)) (ap plain_node c.in-Load.is) c.requires.transfers in
    let size = c.spans_size-ops.ensures ∙ ap (λ ss. spans_size (map plain_span ss)) c.deref-in-Load.ensures.value in
    subst (λ x. IsTransferOf core (core_transfer Load k (n + x) c.in-Load.dram c.in-Load.mem)) (sym size) (all 0 (core_transfer Load k n c.in-Load.dram c.in-Load.mem) (omega arith))

pub add_one-requires-in-Store-clause-transfer : goal.add_one-requires-in-Store-clause-transfer
add_one-requires-in-Store-clause-transfer t c =
    let core = plain_core c.args.core.now in
    let k = length c.args.walk.now.ends.items in
    let n = c.args.walk.now.number in
    let all = subst (λ v. All (IsTransferOf core) (transfers_in v k n)) (ap plain_node c.in-Store.is) c.requires.transfers in
    let size = c.spans_size-ops-in-Store.ensures ∙ ap (λ ss. spans_size (map plain_span ss)) c.deref-in-Store.ensures.value in
    subst (λ x. IsTransferOf core (core_transfer Store k (n + x) c.in-Store.dram c.in-Store.mem)) (sym size) (all 0 (core_transfer Store k n c.in-Store.dram c.in-Store.mem) (omega arith))

pub returns-in-Inner : goal.returns-in-Inner
returns-in-Inner t c =
    let e = ap plain_node c.in-Inner.is in
    let before = c.args.walk.now in
    record {
      walked = on_ok_three c.pass.result (λ u n m. passes (plain_core c.args.core.now) (plain_node c.args.node.now) c.args.builder.now before c.pass.new.walk c.count_numbers.result u n m (ap (λ v. transfers_in v (length before.ends.items) before.number) e) (ap node_count e) c.count_numbers.ensures) c.pass.ensures.units c.pass.ensures.ends c.pass.ensures.number;
    }

pub returns-in-Sparse : goal.returns-in-Sparse
returns-in-Sparse t c =
    let e = ap plain_node c.in-Sparse.is in
    let before = c.args.walk.now in
    record {
      walked = on_ok_three c.pass-in-Sparse.result (λ u n m. passes (plain_core c.args.core.now) (plain_node c.args.node.now) c.args.builder.now before c.pass-in-Sparse.new.walk c.count_numbers-in-Sparse.result u n m (ap (λ v. transfers_in v (length before.ends.items) before.number) e) (ap node_count e) c.count_numbers-in-Sparse.ensures) c.pass-in-Sparse.ensures.units c.pass-in-Sparse.ensures.ends c.pass-in-Sparse.ensures.number;
    }

pub returns-in_ok-add_node-in-Fsm : goal.returns-in_ok-add_node-in-Fsm
returns-in_ok-add_node-in-Fsm t c =
    let core = plain_core c.args.core.now in
    let node = plain_node c.args.node.now in
    let before = c.args.walk.now in
    let p = c.in_ok-pass-in-Fsm.ensures in
    let start : c.len.result ≡ length c.in-Fsm.start.items = search rules in
    let test : c.len-in-Fsm.result ≡ length c.in-Fsm.test.items = search rules in
    let starts = length-map c.in-Fsm.start.items plain_op in
    let tests = length-map c.in-Fsm.test.items plain_op in
    let left = machine_begins core node c.args.builder.now before c.pass-in-Fsm.new.walk (c.len.result + c.len-in-Fsm.result) p.units p.ends p.number (plain_ops c.in-Fsm.start.items) c.in-Fsm.state (plain_ops c.in-Fsm.test.items) (plain_node c.in-Fsm.body.value) (plain_node c.deref-in-Fsm.result.now)
    (plain_ops c.in-Fsm.next.items) (ap plain_node c.in-Fsm.is) (ap plain_node c.deref-in-Fsm.ensures) (omega (arith, start, test, starts, tests)) in
    let next : c.len-in-Fsm-2.result ≡ length c.in-Fsm.next.items = search rules in
    let nexts = length-map c.in-Fsm.next.items plain_op in
    record {
      walked = machine_ends core node c.args.builder.now before c.args.builder.now c.pass-in-Fsm.new.walk (plain_node c.deref-in-Fsm.result.now) (plain_ops c.in-Fsm.next.items) c.len-in-Fsm-2.result c.add_node-in-Fsm.new.builder c.add_node-in-Fsm.new.walk c.skip.new.walk (omega (arith, next, nexts))
          c.skip.ensures.units c.skip.ensures.ends c.skip.ensures.number left c.in_ok-add_node-in-Fsm.ensures.walked;
    }

pub returns-in_ok-add_node-in-Branch : goal.returns-in_ok-add_node-in-Branch
returns-in_ok-add_node-in-Branch t c =
    let core = plain_core c.args.core.now in
    let node = plain_node c.args.node.now in
    let before = c.args.walk.now in
    let p = c.in_ok-pass-in-Branch.ensures in
    let test : c.len-in-Branch.result ≡ length c.in-Branch.test.items = search rules in
    let tests = length-map c.in-Branch.test.items plain_op in
    let left = fork_begins core node c.args.builder.now before c.pass-in-Branch.new.walk c.len-in-Branch.result p.units p.ends p.number (plain_ops c.in-Branch.test.items) (plain_node c.in-Branch.yes.value) (plain_node c.in-Branch.no.value) (plain_node c.deref-in-Branch.result.now) (plain_node c.deref-in-Branch-2.result.now)
    (ap plain_node c.in-Branch.is) (ap plain_node c.deref-in-Branch.ensures) (ap plain_node c.deref-in-Branch-2.ensures) (omega (arith, test, tests)) in
    let other = fork_goes core node c.args.builder.now before c.args.builder.now c.pass-in-Branch.new.walk (plain_node c.deref-in-Branch.result.now) (plain_node c.deref-in-Branch-2.result.now) c.add_node-in-Branch.new.builder c.add_node-in-Branch.new.walk left c.in_ok-add_node-in-Branch.ensures.walked in
    let new = c.add_node-in-Branch-2.new in
    record {
      walked = on_ok c.add_node-in-Branch-2.result (λ w. ended core node c.args.builder.now before new.builder new.walk (passed core node c.args.builder.now before (plain_node c.deref-in-Branch-2.result.now) c.add_node-in-Branch.new.builder new.builder c.add_node-in-Branch.new.walk new.walk [] 0 0 other w))
          c.add_node-in-Branch-2.ensures.walked;
    }
