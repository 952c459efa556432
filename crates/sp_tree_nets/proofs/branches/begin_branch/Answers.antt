use Rattle.std.proofs.Common.{◌∷◌, sym, subst}
use Rattle.sp_gates.specs.Nets.{Awaits}
use Rattle.sp_gates.proofs.Growing.{HasNet-stays, Grows-join, Grows-same}
use Rattle.sp_core.specs.CoreParts.{plain_core}
use Rattle.sp_core.specs.Plain.{plain_ops}
use Rattle.sp_op_nets.specs.Acted.{answers_of}
use Rattle.sp_op_nets.specs.Reserved.{Reserves}
use Rattle.sp_op_nets.proofs.Driving.{stay}
use Rattle.sp_tree_nets.proofs.Later.{turns_kept}
use Rattle.sp_tree_nets.proofs.Listed.{issued_stands}
use Rattle.sp_tree_nets.proofs.Starts.{opened}
use Rattle.sp_tree_nets.proofs.branches.begin_branch.Goals as goal

pub returns-clause-reserves : goal.returns-clause-reserves
returns-clause-reserves c =
    let r3 = opened c.reserve-2.new.builder c.reserve-3.new.builder c.emit_turns.new.builder c.in_ok-no.no _ c.in_ok-no.ensures.opens c.in_ok-no.ensures.awaits c.in_ok-test.ensures.reserves in
    let r2 = opened c.reserve.new.builder c.reserve-2.new.builder c.emit_turns.new.builder c.in_ok-yes.yes _ c.in_ok-yes.ensures.opens c.in_ok-yes.ensures.awaits r3 in
    let r1 = opened c.args.builder.now c.reserve.new.builder c.emit_turns.new.builder c.in_ok-start.start _ c.in_ok-start.ensures.opens c.in_ok-start.ensures.awaits r2 in
    subst (λ n. Reserves c.args.builder.now c.emit_turns.new.builder (n ∷ c.in_ok-yes.yes ∷ c.in_ok-no.no ∷ answers_of c.in_ok-test.test.acted.ops.items)) (sym c.in_ok-test.ensures.start) r1

pub returns-clause-start : goal.returns-clause-start
returns-clause-start c =
    let r3 = opened c.reserve-2.new.builder c.reserve-3.new.builder c.emit_turns.new.builder c.in_ok-no.no _ c.in_ok-no.ensures.opens c.in_ok-no.ensures.awaits c.in_ok-test.ensures.reserves in
    let r2 = opened c.reserve.new.builder c.reserve-2.new.builder c.emit_turns.new.builder c.in_ok-yes.yes _ c.in_ok-yes.ensures.opens c.in_ok-yes.ensures.awaits r3 in
    let r1 = opened c.args.builder.now c.reserve.new.builder c.emit_turns.new.builder c.in_ok-start.start _ c.in_ok-start.ensures.opens c.in_ok-start.ensures.awaits r2 in
    subst (λ n. Awaits c.emit_turns.new.builder n 1) (sym c.in_ok-test.ensures.start) (stay c.reserve.new.builder c.emit_turns.new.builder c.in_ok-start.start 1 _ c.in_ok-start.ensures.awaits r2)

pub returns-clause-yes : goal.returns-clause-yes
returns-clause-yes c =
    let r3 = opened c.reserve-2.new.builder c.reserve-3.new.builder c.emit_turns.new.builder c.in_ok-no.no _ c.in_ok-no.ensures.opens c.in_ok-no.ensures.awaits c.in_ok-test.ensures.reserves in
    let r2 = opened c.reserve.new.builder c.reserve-2.new.builder c.emit_turns.new.builder c.in_ok-yes.yes _ c.in_ok-yes.ensures.opens c.in_ok-yes.ensures.awaits r3 in
    let r1 = opened c.args.builder.now c.reserve.new.builder c.emit_turns.new.builder c.in_ok-start.start _ c.in_ok-start.ensures.opens c.in_ok-start.ensures.awaits r2 in
    stay c.reserve-2.new.builder c.emit_turns.new.builder c.in_ok-yes.yes 1 _ c.in_ok-yes.ensures.awaits r3

pub returns-clause-no : goal.returns-clause-no
returns-clause-no c =
    stay c.reserve-3.new.builder c.emit_turns.new.builder c.in_ok-no.no 1 _ c.in_ok-no.ensures.awaits c.in_ok-test.ensures.reserves

pub returns-clause-yes_net : goal.returns-clause-yes_net
returns-clause-yes_net c =
    let r3 = opened c.reserve-2.new.builder c.reserve-3.new.builder c.emit_turns.new.builder c.in_ok-no.no _ c.in_ok-no.ensures.opens c.in_ok-no.ensures.awaits c.in_ok-test.ensures.reserves in
    let r2 = opened c.reserve.new.builder c.reserve-2.new.builder c.emit_turns.new.builder c.in_ok-yes.yes _ c.in_ok-yes.ensures.opens c.in_ok-yes.ensures.awaits r3 in
    let r1 = opened c.args.builder.now c.reserve.new.builder c.emit_turns.new.builder c.in_ok-start.start _ c.in_ok-start.ensures.opens c.in_ok-start.ensures.awaits r2 in
    HasNet-stays c.reserve-2.new.builder c.emit_turns.new.builder c.in_ok-yes.yes 1 r3.grows c.in_ok-yes.ensures.net

pub returns-clause-no_net : goal.returns-clause-no_net
returns-clause-no_net c =
    HasNet-stays c.reserve-3.new.builder c.emit_turns.new.builder c.in_ok-no.no 1 c.in_ok-test.ensures.reserves.grows c.in_ok-no.ensures.net

pub returns-clause-turns : goal.returns-clause-turns
returns-clause-turns c =
    turns_kept c.args.builder.now c.reserve-3.new.builder c.emit_turns.new.builder c.emit_turns.new.builder (plain_core c.args.core.now) c.args.around.now c.args.number (plain_ops c.args.test.now) _ _ _ (Grows-join _ _ _ (Grows-join _ _ _ c.in_ok-start.ensures.opens.grows c.in_ok-yes.ensures.opens.grows) c.in_ok-no.ensures.opens.grows) (Grows-same c.emit_turns.new.builder) c.in_ok-test.ensures.turns

pub returns-clause-list : goal.returns-clause-list
returns-clause-list c = issued_stands c.emit_turns.new.builder (plain_core c.args.core.now) c.args.number (plain_ops c.args.test.now) c.in_ok-test.test.acted c.in_ok-test.ensures.acted
