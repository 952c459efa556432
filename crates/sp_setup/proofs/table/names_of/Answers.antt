use Rattle.std.proofs.Common.{◌∙◌, sym}
use Rattle.std.proofs.lemmas.List.{drop_all}
use Rattle.sp_setup.proofs.NameSets.{one_more, none_left, none_yet}
use Rattle.sp_setup.proofs.Turns.{drop-turn}
use Rattle.sp_setup.proofs.table.names_of.Goals as goal

pub loop-port-init : goal.loop-port-init
loop-port-init c key = none_yet key c.new-names.result.keys c.args.ports.now c.new-names.ensures.empty

pub loop-port-preserved : goal.loop-port-preserved
loop-port-preserved c key =
    let turn = drop-turn c.args.ports.now c.loop-port.port-index c.port-item.result c.loop-port-test.true c.port-item.is in
    one_more key _ _ _ _ _ c.port-item.result c.in_ok-insert.ensures.keys (c.in_ok-from_str.ensures.ok ∙ c.deref.ensures) turn ∙ c.loop-port.invariant key

pub returns : goal.returns
returns c key = sym (none_left key c.loop-port.names.keys _ (drop_all c.loop-port.port-index c.args.ports.now c.loop-port-test.false)) ∙ c.loop-port.invariant key
