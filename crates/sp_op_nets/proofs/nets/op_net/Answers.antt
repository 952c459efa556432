use Rattle.std.proofs.Common.{◌≡◌, ⊎_elim, true, ap, subst}
use Rattle.sp_core.specs.Plain.{plain_op}
use Rattle.sp_gates.proofs.Growing.{Fills-none}
use Rattle.sp_op_nets.specs.Reserved.{is_reserved}
use Rattle.sp_op_nets.specs.Table.{StandsAt}
use Rattle.sp_op_nets.proofs.Making.{count_is, live_is, other_is, reserves_none, reserves_one, other_kind}
use Rattle.sp_op_nets.proofs.nets.op_net.Goals as goal

pub returns-in_ok-net-in-Count-clause-net : goal.returns-in_ok-net-in-Count-clause-net
returns-in_ok-net-in-Count-clause-net c =
    let e = c.in_ok-net-in-Count.ensures in
    count_is c.count_net.new.builder c.args.around.now (plain_op c.args.op.now) c.args.after (record { net = c.in_ok-net-in-Count.net; after = c.args.after }) c.in-Count.counter c.in-Count.lane c.in-Count.is e.net e.word

pub returns-in_ok-net-in-Count-clause-reserves : goal.returns-in_ok-net-in-Count-clause-reserves
returns-in_ok-net-in-Count-clause-reserves c = reserves_none _ _ c.args.op.now.kind c.in_ok-net-in-Count.net (ap is_reserved c.in-Count.is) c.in_ok-net-in-Count.ensures.fills

pub returns-in_ok-net-in-Live-clause-net : goal.returns-in_ok-net-in-Live-clause-net
returns-in_ok-net-in-Live-clause-net c =
    let e = c.in_ok-net-in-Live.ensures in
    let stands = subst (StandsAt c.args.builder.now c.args.around.now) c.in-Live.is c.requires in
    live_is c.live_net.new.builder c.args.around.now (plain_op c.args.op.now) c.args.after (record { net = c.in_ok-net-in-Live.net; after = c.args.after }) c.in-Live.counter c.in-Live.first c.in-Live.last c.in-Live.is stands.0 e.net e.bit e.on

pub returns-in_ok-net-in-Live-clause-reserves : goal.returns-in_ok-net-in-Live-clause-reserves
returns-in_ok-net-in-Live-clause-reserves c = reserves_none _ _ c.args.op.now.kind c.in_ok-net-in-Live.net (ap is_reserved c.in-Live.is) c.in_ok-net-in-Live.ensures.fills

pub returns-in_ok-net-in-Read-clause-reserves : goal.returns-in_ok-net-in-Read-clause-reserves
returns-in_ok-net-in-Read-clause-reserves c =
    let so : is_reserved c.args.op.now.kind ≡ true = ⊎_elim (λ h. ap is_reserved h) (λ h. ap is_reserved h) c.in-Read.is in
    reserves_one _ _ c.args.op.now.kind c.in_ok-net-in-Read.net _ so c.in_ok-net-in-Read.ensures.opens c.in_ok-net-in-Read.ensures.awaits

pub returns-in_default : goal.returns-in_default
returns-in_default c =
    let k = other_kind c.args.op.now.kind c.in_default.not-Count c.in_default.not-Live c.in_default.not-Read c.in_default.not-Deq in
    record {
      net = other_is c.args.builder.now c.args.around.now (plain_op c.args.op.now) c.args.after (record { net = c.new.result; after = c.args.after }) k.0 k.1;
      reserves = reserves_none _ _ c.args.op.now.kind c.new.result k.1 (Fills-none _);
    }
