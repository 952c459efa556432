use Rattle.std.proofs.Common.{◌+◌, map, subst, sym, ◌∙◌, drop, take, []}
use Rattle.std.proofs.lemmas.List.{length-map}
use Rattle.sp_words.specs.Ports.{plain_port}
use Rattle.sp_frames.proofs.Adding.{HasInputs, no_inputs, one_more_input, all_inputs}
use Rattle.sp_frames.proofs.Framing.{ports_alone, words_on}
use Rattle.sp_frames.proofs.Naming.{net_for_each}
use Rattle.sp_frames.proofs.inputs.add_inputs.Goals as goal

pub loop-port-init : goal.loop-port-init
loop-port-init c = subst (λ nets. HasInputs c.args.builder.now [] nets (map plain_port c.args.args.now)) (sym c.new-nets.ensures.items) (no_inputs c.args.builder.now (map plain_port c.args.args.now) c.requires.no_nets c.requires.no_cells c.requires.named)

pub loop-port-preserved : goal.loop-port-preserved
loop-port-preserved c =
    let e = c.in_ok-net.ensures in
    subst (λ nets. HasInputs c.add_input.new.builder (map plain_port (take (c.loop-port.port-index + 1) c.args.args.now)) nets (map plain_port (drop (c.loop-port.port-index + 1) c.args.args.now))) (sym c.in_ok-push.ensures.items)
    (one_more_input _ c.add_input.new.builder c.args.args.now c.loop-port.port-index c.port-item.result c.loop-port.nets.items c.in_ok-net.net c.loop-port-test.true c.port-item.is c.loop-port.invariant e.cells e.builds e.net)

pub returns-clause-net_for_each : goal.returns-clause-net_for_each
returns-clause-net_for_each c =
    let h = all_inputs _ c.args.args.now _ _ _ c.loop-port-test.false c.loop-port.invariant in
    net_for_each _ _ _ h.have ∙ length-map c.args.args.now plain_port

pub returns-clause-ports : goal.returns-clause-ports
returns-clause-ports c =
    let h = all_inputs _ c.args.args.now _ _ _ c.loop-port-test.false c.loop-port.invariant in
    ports_alone _ _ _ h.cells (net_for_each _ _ _ h.have)

pub returns-clause-words : goal.returns-clause-words
returns-clause-words c =
    let h = all_inputs _ c.args.args.now _ _ _ c.loop-port-test.false c.loop-port.invariant in
    words_on _ _ _ h.cells (net_for_each _ _ _ h.have)
