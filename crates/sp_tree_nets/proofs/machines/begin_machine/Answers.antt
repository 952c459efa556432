use Rattle.std.proofs.Common.{◌+◌, ◌∷◌, ◌++◌, length, sym, subst}
use Rattle.sp_words.specs.declared.types.Ty.TheVariants.{Bit}
use Rattle.sp_words.specs.Types.{width_of}
use Rattle.sp_gates.specs.Nets.{Awaits}
use Rattle.sp_gates.proofs.Growing.{HasNet-stays, Grows-join, Grows-same}
use Rattle.sp_core.specs.CoreParts.{plain_core}
use Rattle.sp_core.specs.Plain.{plain_ops}
use Rattle.sp_op_nets.specs.Acted.{answers_of}
use Rattle.sp_op_nets.specs.Reserved.{Reserves}
use Rattle.sp_op_nets.proofs.Driving.{stay}
use Rattle.sp_op_nets.proofs.Reserving.{reserved_join}
use Rattle.sp_tree_handed.specs.Lists.{numbered}
use Rattle.sp_tree_handed.proofs.Joining.{list_later}
use Rattle.sp_tree_nets.proofs.Later.{turns_kept, word_later}
use Rattle.sp_tree_nets.proofs.Listed.{issued_stands}
use Rattle.sp_tree_nets.proofs.Starts.{opened}
use Rattle.sp_tree_nets.proofs.machines.begin_machine.Goals as goal

pub emit_turns-requires-clause-right : goal.emit_turns-requires-clause-right
emit_turns-requires-clause-right c =
    word_later c.args.builder.now c.reserve-4.new.builder (plain_core c.args.core.now) c.args.around.now (plain_ops c.args.first.now) c.args.ty (Grows-join _ _ _ (Grows-join _ _ _ (Grows-join _ _ _ c.in_ok-first_start.ensures.opens.grows c.in_ok-test_start.ensures.opens.grows) c.in_ok-body.ensures.opens.grows) c.in_ok-next.ensures.opens.grows) c.requires.first_right

pub emit_turns-requires-2-clause-right : goal.emit_turns-requires-2-clause-right
emit_turns-requires-2-clause-right c =
    word_later c.args.builder.now c.emit_turns.new.builder (plain_core c.args.core.now) c.args.around.now (plain_ops c.args.test.now) Bit (Grows-join _ _ _ (Grows-join _ _ _ (Grows-join _ _ _ (Grows-join _ _ _ c.in_ok-first_start.ensures.opens.grows c.in_ok-test_start.ensures.opens.grows) c.in_ok-body.ensures.opens.grows) c.in_ok-next.ensures.opens.grows) c.in_ok-first.ensures.reserves.grows) c.requires.test_right

pub emit_turns-requires-2-clause-start : goal.emit_turns-requires-2-clause-start
emit_turns-requires-2-clause-start c =
    HasNet-stays c.reserve-2.new.builder c.emit_turns.new.builder c.in_ok-test_start.test_start 1 (Grows-join _ _ _ (Grows-join _ _ _ c.in_ok-body.ensures.opens.grows c.in_ok-next.ensures.opens.grows) c.in_ok-first.ensures.reserves.grows) c.in_ok-test_start.ensures.net

pub returns-clause-reserves : goal.returns-clause-reserves
returns-clause-reserves c =
    let lists = reserved_join c.reserve-4.new.builder c.emit_turns.new.builder c.emit_turns-2.new.builder _ _ c.in_ok-first.ensures.reserves c.in_ok-test.ensures.reserves in
    let r4 = opened c.reserve-3.new.builder c.reserve-4.new.builder c.emit_turns-2.new.builder c.in_ok-next.next _ c.in_ok-next.ensures.opens c.in_ok-next.ensures.awaits lists in
    let r3 = opened c.reserve-2.new.builder c.reserve-3.new.builder c.emit_turns-2.new.builder c.in_ok-body.body _ c.in_ok-body.ensures.opens c.in_ok-body.ensures.awaits r4 in
    let r2 = opened c.reserve.new.builder c.reserve-2.new.builder c.emit_turns-2.new.builder c.in_ok-test_start.test_start _ c.in_ok-test_start.ensures.opens c.in_ok-test_start.ensures.awaits r3 in
    let r1 = opened c.args.builder.now c.reserve.new.builder c.emit_turns-2.new.builder c.in_ok-first_start.first_start _ c.in_ok-first_start.ensures.opens c.in_ok-first_start.ensures.awaits r2 in
    subst (λ n. Reserves c.args.builder.now c.emit_turns-2.new.builder (n ∷ c.in_ok-test.test.child.start ∷ c.in_ok-body.body ∷ c.in_ok-next.next ∷ (answers_of c.in_ok-first.first.acted.ops.items ++ answers_of c.in_ok-test.test.acted.ops.items))) (sym c.in_ok-first.ensures.start)
    (subst (λ n. Reserves c.args.builder.now c.emit_turns-2.new.builder (c.in_ok-first_start.first_start ∷ n ∷ c.in_ok-body.body ∷ c.in_ok-next.next ∷ (answers_of c.in_ok-first.first.acted.ops.items ++ answers_of c.in_ok-test.test.acted.ops.items))) (sym c.in_ok-test.ensures.start) r1)

pub returns-clause-first_start : goal.returns-clause-first_start
returns-clause-first_start c =
    let lists = reserved_join c.reserve-4.new.builder c.emit_turns.new.builder c.emit_turns-2.new.builder _ _ c.in_ok-first.ensures.reserves c.in_ok-test.ensures.reserves in
    let r4 = opened c.reserve-3.new.builder c.reserve-4.new.builder c.emit_turns-2.new.builder c.in_ok-next.next _ c.in_ok-next.ensures.opens c.in_ok-next.ensures.awaits lists in
    let r3 = opened c.reserve-2.new.builder c.reserve-3.new.builder c.emit_turns-2.new.builder c.in_ok-body.body _ c.in_ok-body.ensures.opens c.in_ok-body.ensures.awaits r4 in
    let r2 = opened c.reserve.new.builder c.reserve-2.new.builder c.emit_turns-2.new.builder c.in_ok-test_start.test_start _ c.in_ok-test_start.ensures.opens c.in_ok-test_start.ensures.awaits r3 in
    let r1 = opened c.args.builder.now c.reserve.new.builder c.emit_turns-2.new.builder c.in_ok-first_start.first_start _ c.in_ok-first_start.ensures.opens c.in_ok-first_start.ensures.awaits r2 in
    subst (λ n. Awaits c.emit_turns-2.new.builder n 1) (sym c.in_ok-first.ensures.start) (stay c.reserve.new.builder c.emit_turns-2.new.builder c.in_ok-first_start.first_start 1 _ c.in_ok-first_start.ensures.awaits r2)

pub returns-clause-test_start : goal.returns-clause-test_start
returns-clause-test_start c =
    let lists = reserved_join c.reserve-4.new.builder c.emit_turns.new.builder c.emit_turns-2.new.builder _ _ c.in_ok-first.ensures.reserves c.in_ok-test.ensures.reserves in
    let r4 = opened c.reserve-3.new.builder c.reserve-4.new.builder c.emit_turns-2.new.builder c.in_ok-next.next _ c.in_ok-next.ensures.opens c.in_ok-next.ensures.awaits lists in
    let r3 = opened c.reserve-2.new.builder c.reserve-3.new.builder c.emit_turns-2.new.builder c.in_ok-body.body _ c.in_ok-body.ensures.opens c.in_ok-body.ensures.awaits r4 in
    let r2 = opened c.reserve.new.builder c.reserve-2.new.builder c.emit_turns-2.new.builder c.in_ok-test_start.test_start _ c.in_ok-test_start.ensures.opens c.in_ok-test_start.ensures.awaits r3 in
    let r1 = opened c.args.builder.now c.reserve.new.builder c.emit_turns-2.new.builder c.in_ok-first_start.first_start _ c.in_ok-first_start.ensures.opens c.in_ok-first_start.ensures.awaits r2 in
    subst (λ n. Awaits c.emit_turns-2.new.builder n 1) (sym c.in_ok-test.ensures.start) (stay c.reserve-2.new.builder c.emit_turns-2.new.builder c.in_ok-test_start.test_start 1 _ c.in_ok-test_start.ensures.awaits r3)

pub returns-clause-body : goal.returns-clause-body
returns-clause-body c =
    let lists = reserved_join c.reserve-4.new.builder c.emit_turns.new.builder c.emit_turns-2.new.builder _ _ c.in_ok-first.ensures.reserves c.in_ok-test.ensures.reserves in
    let r4 = opened c.reserve-3.new.builder c.reserve-4.new.builder c.emit_turns-2.new.builder c.in_ok-next.next _ c.in_ok-next.ensures.opens c.in_ok-next.ensures.awaits lists in
    let r3 = opened c.reserve-2.new.builder c.reserve-3.new.builder c.emit_turns-2.new.builder c.in_ok-body.body _ c.in_ok-body.ensures.opens c.in_ok-body.ensures.awaits r4 in
    let r2 = opened c.reserve.new.builder c.reserve-2.new.builder c.emit_turns-2.new.builder c.in_ok-test_start.test_start _ c.in_ok-test_start.ensures.opens c.in_ok-test_start.ensures.awaits r3 in
    let r1 = opened c.args.builder.now c.reserve.new.builder c.emit_turns-2.new.builder c.in_ok-first_start.first_start _ c.in_ok-first_start.ensures.opens c.in_ok-first_start.ensures.awaits r2 in
    stay c.reserve-3.new.builder c.emit_turns-2.new.builder c.in_ok-body.body 1 _ c.in_ok-body.ensures.awaits r4

pub returns-clause-next : goal.returns-clause-next
returns-clause-next c =
    let lists = reserved_join c.reserve-4.new.builder c.emit_turns.new.builder c.emit_turns-2.new.builder _ _ c.in_ok-first.ensures.reserves c.in_ok-test.ensures.reserves in
    let r4 = opened c.reserve-3.new.builder c.reserve-4.new.builder c.emit_turns-2.new.builder c.in_ok-next.next _ c.in_ok-next.ensures.opens c.in_ok-next.ensures.awaits lists in
    let r3 = opened c.reserve-2.new.builder c.reserve-3.new.builder c.emit_turns-2.new.builder c.in_ok-body.body _ c.in_ok-body.ensures.opens c.in_ok-body.ensures.awaits r4 in
    let r2 = opened c.reserve.new.builder c.reserve-2.new.builder c.emit_turns-2.new.builder c.in_ok-test_start.test_start _ c.in_ok-test_start.ensures.opens c.in_ok-test_start.ensures.awaits r3 in
    let r1 = opened c.args.builder.now c.reserve.new.builder c.emit_turns-2.new.builder c.in_ok-first_start.first_start _ c.in_ok-first_start.ensures.opens c.in_ok-first_start.ensures.awaits r2 in
    stay c.reserve-4.new.builder c.emit_turns-2.new.builder c.in_ok-next.next 1 _ c.in_ok-next.ensures.awaits lists

pub returns-clause-body_net : goal.returns-clause-body_net
returns-clause-body_net c =
    let lists = reserved_join c.reserve-4.new.builder c.emit_turns.new.builder c.emit_turns-2.new.builder _ _ c.in_ok-first.ensures.reserves c.in_ok-test.ensures.reserves in
    let r4 = opened c.reserve-3.new.builder c.reserve-4.new.builder c.emit_turns-2.new.builder c.in_ok-next.next _ c.in_ok-next.ensures.opens c.in_ok-next.ensures.awaits lists in
    let r3 = opened c.reserve-2.new.builder c.reserve-3.new.builder c.emit_turns-2.new.builder c.in_ok-body.body _ c.in_ok-body.ensures.opens c.in_ok-body.ensures.awaits r4 in
    let r2 = opened c.reserve.new.builder c.reserve-2.new.builder c.emit_turns-2.new.builder c.in_ok-test_start.test_start _ c.in_ok-test_start.ensures.opens c.in_ok-test_start.ensures.awaits r3 in
    let r1 = opened c.args.builder.now c.reserve.new.builder c.emit_turns-2.new.builder c.in_ok-first_start.first_start _ c.in_ok-first_start.ensures.opens c.in_ok-first_start.ensures.awaits r2 in
    HasNet-stays c.reserve-3.new.builder c.emit_turns-2.new.builder c.in_ok-body.body 1 r4.grows c.in_ok-body.ensures.net

pub returns-clause-next_net : goal.returns-clause-next_net
returns-clause-next_net c =
    let lists = reserved_join c.reserve-4.new.builder c.emit_turns.new.builder c.emit_turns-2.new.builder _ _ c.in_ok-first.ensures.reserves c.in_ok-test.ensures.reserves in
    let r4 = opened c.reserve-3.new.builder c.reserve-4.new.builder c.emit_turns-2.new.builder c.in_ok-next.next _ c.in_ok-next.ensures.opens c.in_ok-next.ensures.awaits lists in
    let r3 = opened c.reserve-2.new.builder c.reserve-3.new.builder c.emit_turns-2.new.builder c.in_ok-body.body _ c.in_ok-body.ensures.opens c.in_ok-body.ensures.awaits r4 in
    let r2 = opened c.reserve.new.builder c.reserve-2.new.builder c.emit_turns-2.new.builder c.in_ok-test_start.test_start _ c.in_ok-test_start.ensures.opens c.in_ok-test_start.ensures.awaits r3 in
    let r1 = opened c.args.builder.now c.reserve.new.builder c.emit_turns-2.new.builder c.in_ok-first_start.first_start _ c.in_ok-first_start.ensures.opens c.in_ok-first_start.ensures.awaits r2 in
    HasNet-stays c.reserve-4.new.builder c.emit_turns-2.new.builder c.in_ok-next.next 1 lists.grows c.in_ok-next.ensures.net

pub returns-clause-first_done : goal.returns-clause-first_done
returns-clause-first_done c =
    HasNet-stays c.emit_turns.new.builder c.emit_turns-2.new.builder c.in_ok-first.first.child.done 1 c.in_ok-test.ensures.reserves.grows c.in_ok-first.ensures.done

pub returns-clause-begins : goal.returns-clause-begins
returns-clause-begins c =
    turns_kept c.args.builder.now c.reserve-4.new.builder c.emit_turns.new.builder c.emit_turns-2.new.builder (plain_core c.args.core.now) c.args.around.now c.args.number (plain_ops c.args.first.now) _ _ _ (Grows-join _ _ _ (Grows-join _ _ _ (Grows-join _ _ _ c.in_ok-first_start.ensures.opens.grows c.in_ok-test_start.ensures.opens.grows) c.in_ok-body.ensures.opens.grows) c.in_ok-next.ensures.opens.grows) c.in_ok-test.ensures.reserves.grows c.in_ok-first.ensures.turns

pub returns-clause-tests : goal.returns-clause-tests
returns-clause-tests c =
    turns_kept c.args.builder.now c.emit_turns.new.builder c.emit_turns-2.new.builder c.emit_turns-2.new.builder (plain_core c.args.core.now) c.args.around.now _ (plain_ops c.args.test.now) _ _ _ (Grows-join _ _ _ (Grows-join _ _ _ (Grows-join _ _ _ (Grows-join _ _ _ c.in_ok-first_start.ensures.opens.grows c.in_ok-test_start.ensures.opens.grows) c.in_ok-body.ensures.opens.grows) c.in_ok-next.ensures.opens.grows) c.in_ok-first.ensures.reserves.grows) (Grows-same c.emit_turns-2.new.builder) c.in_ok-test.ensures.turns

pub returns-clause-begun_word : goal.returns-clause-begun_word
returns-clause-begun_word c =
    HasNet-stays c.emit_turns.new.builder c.emit_turns-2.new.builder c.in_ok-first.first.word (width_of c.args.ty) c.in_ok-test.ensures.reserves.grows c.in_ok-first.ensures.word

pub returns-clause-first_list : goal.returns-clause-first_list
returns-clause-first_list c =
    list_later c.emit_turns.new.builder c.emit_turns-2.new.builder (plain_core c.args.core.now) (numbered c.args.number (plain_ops c.args.first.now)) c.in_ok-first.first.acted c.in_ok-test.ensures.reserves.grows
    (issued_stands c.emit_turns.new.builder (plain_core c.args.core.now) c.args.number (plain_ops c.args.first.now) c.in_ok-first.first.acted c.in_ok-first.ensures.acted)

pub returns-clause-test_list : goal.returns-clause-test_list
returns-clause-test_list c =
    issued_stands c.emit_turns-2.new.builder (plain_core c.args.core.now) (c.args.number + length c.args.first.now) (plain_ops c.args.test.now) c.in_ok-test.test.acted c.in_ok-test.ensures.acted
