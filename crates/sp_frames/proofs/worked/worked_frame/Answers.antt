use Rattle.std.proofs.Common.{[], append-nil, length, ap, sym, subst, ◌∙◌, codes, map}
use Rattle.sp_words.specs.Ports.{plain_port}
use Rattle.sp_gates.proofs.Growing.{Grows-join, more_gates}
use Rattle.sp_frames.specs.Framed.{in_cells}
use Rattle.sp_frames.specs.Ports.{HaveNets}
use Rattle.sp_frames.proofs.Working.{renamed, worked_ports, worked_ends}
use Rattle.sp_frames.proofs.worked.worked_frame.Goals as goal

pub close_frame-requires-clause-none_open : goal.close_frame-requires-clause-none_open
close_frame-requires-clause-none_open c = λ n o. c.in_ok-nets.ensures.none_open n (c.in_ok-one.ensures.fills.no_other n (c.in_ok-done.ensures.fills.no_other n o).0).0

pub close_frame-requires-clause-no_output : goal.close_frame-requires-clause-no_output
close_frame-requires-clause-no_output c =
    c.port_laws.ensures.no_output _ c.hold.new.builder _ _ [] (c.in_ok-nets.ensures.cells ∙ sym (append-nil _))
    (c.port_laws.ensures.gates_inside _ c.hold.new.builder (more_gates _ _ _ c.in_ok-one.ensures.fills.gates c.in_ok-done.ensures.fills.gates))

pub close_frame-requires-clause-nets : goal.close_frame-requires-clause-nets
close_frame-requires-clause-nets c =
    let here = c.port_laws.ensures.nets_stay _ c.hold.new.builder _ _ (Grows-join _ _ _ c.in_ok-one.ensures.fills.grows c.in_ok-done.ensures.fills.grows) c.in_ok-nets.ensures.nets in
    subst (λ nets. HaveNets c.hold.new.builder (map plain_port c.deref-2.result.now) nets) (sym c.deref-3.ensures.value)
    (renamed c.hold.new.builder (map plain_port c.deref.result.now) (map plain_port c.deref-2.result.now) (codes "x") (codes "y") c.in_ok-nets.nets.items (ap (map plain_port) c.deref.ensures.value ∙ c.in_ok-args.ensures)
    (ap (map plain_port) c.deref-2.ensures.value ∙ c.in_ok-outs.ensures) here)

pub returns-clause-ports : goal.returns-clause-ports
returns-clause-ports c =
    let e = c.in_ok-nets.ensures in
    let gates = more_gates _ _ _ c.in_ok-one.ensures.fills.gates c.in_ok-done.ensures.fills.gates in
    let nets = c.deref-3.ensures.value in
    worked_ports c.port_laws.ensures c.frame_laws.ensures c.frames_end.ensures c.one_run.ensures c.add_inputs.new.builder c.one.new.builder c.hold.new.builder (map plain_port c.deref.result.now) (map plain_port c.deref-2.result.now) c.deref-3.result.now
    c.in_ok-one.one c.in_ok-done.done c.in_ok-netlist.netlist (ap (map plain_port) c.deref.ensures.value ∙ c.in_ok-args.ensures) (ap (map plain_port) c.deref-2.ensures.value ∙ c.in_ok-outs.ensures) (e.cells ∙ ap (in_cells (map plain_port c.deref.result.now)) (sym nets) ∙ sym (append-nil _))
    (ap length nets ∙ c.port_laws.ensures.net_for_each _ _ _ e.nets) c.in_ok-one.ensures.fills c.in_ok-done.ensures.fills gates c.in_ok-netlist.ensures.cells c.in_ok-one.ensures.one c.in_ok-done.ensures.word c.in_ok-netlist.ensures.netlist

pub returns-clause-ends : goal.returns-clause-ends
returns-clause-ends c =
    let e = c.in_ok-nets.ensures in
    let gates = more_gates _ _ _ c.in_ok-one.ensures.fills.gates c.in_ok-done.ensures.fills.gates in
    let nets = c.deref-3.ensures.value in
    worked_ends c.port_laws.ensures c.frame_laws.ensures c.frames_end.ensures c.one_run.ensures c.add_inputs.new.builder c.one.new.builder c.hold.new.builder (map plain_port c.deref.result.now) (map plain_port c.deref-2.result.now) c.deref-3.result.now
    c.in_ok-one.one c.in_ok-done.done c.in_ok-netlist.netlist (ap (map plain_port) c.deref.ensures.value ∙ c.in_ok-args.ensures) (ap (map plain_port) c.deref-2.ensures.value ∙ c.in_ok-outs.ensures) (e.cells ∙ ap (in_cells (map plain_port c.deref.result.now)) (sym nets) ∙ sym (append-nil _))
    (ap length nets ∙ c.port_laws.ensures.net_for_each _ _ _ e.nets) c.in_ok-one.ensures.fills c.in_ok-done.ensures.fills gates c.in_ok-netlist.ensures.cells c.in_ok-one.ensures.one c.in_ok-done.ensures.word c.in_ok-netlist.ensures.netlist
