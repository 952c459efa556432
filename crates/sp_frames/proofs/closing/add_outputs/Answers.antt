use Rattle.std.proofs.Common.{rules, map, length, length-append}
use Rattle.std.proofs.lemmas.Slice.Zip.{zip_turn, zip_end}
use Rattle.sp_words.specs.Ports.{plain_port}
use Rattle.sp_frames.proofs.Adding.{no_outputs, next_output, one_more_output, all_outputs}
use Rattle.sp_frames.proofs.closing.add_outputs.Goals as goal

pub loop-port-init : goal.loop-port-init
loop-port-init c = no_outputs c.args.builder.now (map plain_port c.args.outs.now) c.args.nets.now c.requires.no_output c.requires.named c.requires.nets

pub add_output-requires-clause-net : goal.add_output-requires-clause-net
add_output-requires-clause-net c =
    let turn = zip_turn c.args.outs.now c.args.nets.now c.loop-port.yielded c.into_iter-port-iterator.result c.loop-port.port-iterator c.next.new.self c.next.result (search rules) (search rules) c.loop-port.yielded_by (c.in-Some.port, c.in-Some.net) c.in-Some.is c.next.ensures.steps in
    (next_output _ _ c.args.outs.now c.args.nets.now _ _ (length c.loop-port.yielded) c.in-Some.port.now c.in-Some.net.now turn.0 turn.1 (turn.2 _) (turn.3 _) c.loop-port.invariant).have.0

pub loop-port-preserved : goal.loop-port-preserved
loop-port-preserved c =
    let turn = zip_turn c.args.outs.now c.args.nets.now c.loop-port.yielded c.into_iter-port-iterator.result c.loop-port.port-iterator c.next.new.self c.next.result (search rules) (search rules) c.loop-port.yielded_by (c.in-Some.port, c.in-Some.net) c.in-Some.is c.next.ensures.steps in
    let e = c.in_ok-add_output.ensures in
    rw length-append (one_more_output c.args.builder.now c.loop-port.builder c.add_output.new.builder c.args.outs.now c.args.nets.now (map plain_port c.args.outs.now) c.args.nets.now (length c.loop-port.yielded) c.in-Some.port.now c.in-Some.net.now turn.0 turn.1 (turn.2 _) (turn.3 _) c.loop-port.invariant e.cells e.builds e.same_nets e.drivers)

pub returns-clause-cells : goal.returns-clause-cells
returns-clause-cells c =
    let end = zip_end c.args.outs.now c.args.nets.now c.loop-port.yielded c.into_iter-port-iterator.result c.loop-port.port-iterator c.next.new.self c.next.result (search rules) (search rules) c.loop-port.yielded_by c.in-None.is c.next.ensures.steps in
    all_outputs _ _ c.args.outs.now c.args.nets.now _ _ (length c.loop-port.yielded) end c.loop-port.invariant
