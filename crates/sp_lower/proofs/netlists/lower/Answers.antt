use Rattle.std.proofs.lemmas.List.{length-map}
use Rattle.std.proofs.Common.{[], ◌∷◌, ◌++◌, count_by, length, map, slice_index, ap, sym, subst, ◌∙◌, arith}
use Rattle.sp_words.specs.Ports.{PlainPorts, plain_port}
use Rattle.sp_gates.specs.Grows.{Fills}
use Rattle.sp_gates.proofs.Growing.{Fills-join, HasNet-stays}
use Rattle.sp_core.specs.CoreParts.{plain_core}
use Rattle.sp_core.specs.Meaning.{outs_of}
use Rattle.sp_plan.specs.Plain.{plain_plan}
use Rattle.sp_netlist.specs.Cells.{done_cell}
use Rattle.sp_frames.specs.Framed.{front_cells, dram_cells, out_cells}
use Rattle.sp_frames.specs.Ports.{AreNamed, HaveSizes, HaveNets}
use Rattle.sp_port_nets.specs.Nets.{nets_of_arguments}
use Rattle.sp_netlist.specs.Rules.{is_unit}
use Rattle.sp_taps.proofs.Rows.{promises_join}
use Rattle.sp_load_units.specs.Units.{HasDrams, unit_wires_in}
use Rattle.sp_lower.specs.TreesFits.{TransfersStand}
use Rattle.sp_memory_nets.specs.ArrayBanks.{ArraysStand, wires_in}
use Rattle.sp_lower.proofs.Lowering.{Steps, drams_named, drams_sized, few_drams, args_stand, outs_stand, outs_named, no_units, transfers_stand, grown, inside, closed, open_later, carried}
use Rattle.sp_lower.proofs.netlists.lower.Goals as goal

pub add_drams-requires-clause-no_dram : goal.add_drams-requires-clause-no_dram
add_drams-requires-clause-no_dram c = c.port_laws.ensures.no_drams c.add_inputs.new.builder (map plain_port c.deref.result.now) c.in_ok-ports.ports.items c.in_ok-ports.ensures.cells

pub add_drams-requires-clause-named : goal.add_drams-requires-clause-named
add_drams-requires-clause-named c =
    let drams_are = ap (map plain_port) c.deref-2.ensures.value ∙ ap (λ (p : PlainPorts). p.drams) c.ports-2.ensures.ports in
    subst AreNamed (sym drams_are) (drams_named (plain_core c.args.core.now) c.ports.ensures.core c.port_laws.ensures c.arguments_are_ports.ensures c.outputs_are_ports.ensures)

pub add_drams-requires-clause-sizes : goal.add_drams-requires-clause-sizes
add_drams-requires-clause-sizes c =
    let drams_are = ap (map plain_port) c.deref-2.ensures.value ∙ ap (λ (p : PlainPorts). p.drams) c.ports-2.ensures.ports in
    subst HaveSizes (sym drams_are) (drams_sized (plain_core c.args.core.now) c.ports.ensures.core c.port_laws.ensures c.arguments_are_ports.ensures c.outputs_are_ports.ensures)

pub add_drams-requires-clause-few : goal.add_drams-requires-clause-few
add_drams-requires-clause-few c =
    let drams_are = ap (map plain_port) c.deref-2.ensures.value ∙ ap (λ (p : PlainPorts). p.drams) c.ports-2.ensures.ports in
    let same = ap length drams_are in
    let many = length-map c.deref-2.result.now plain_port in
    let few = few_drams (plain_core c.args.core.now) c.ports.ensures.core c.port_laws.ensures c.arguments_are_ports.ensures c.outputs_are_ports.ensures in
    omega (arith, same, many, few)

pub add_units-requires-clause-draft : goal.add_units-requires-clause-draft
add_units-requires-clause-draft c = c.in_ok-add_drams.ensures.builds.grows.draft c.in_ok-ports.ensures.draft

pub add_units-requires-clause-drams : goal.add_units-requires-clause-drams
add_units-requires-clause-drams c =
    let core = plain_core c.args.core.now in
    let drams_are = ap (map plain_port) c.deref-2.ensures.value ∙ ap (λ (p : PlainPorts). p.drams) c.ports-2.ensures.ports in
    let cells_are = c.in_ok-add_drams.ensures.cells ∙ ap (λ cells. cells ++ dram_cells 0 (map plain_port c.deref-2.result.now)) c.in_ok-ports.ensures.cells ∙ ap (λ ps. front_cells (map plain_port c.deref.result.now) c.in_ok-ports.ports.items ps) drams_are in
    subst (HasDrams core) (sym cells_are) (c.drams_stand.ensures core (map plain_port c.deref.result.now) c.in_ok-ports.ports.items)

pub add_units-requires-clause-no_unit : goal.add_units-requires-clause-no_unit
add_units-requires-clause-no_unit c =
    ap (count_by is_unit) (c.in_ok-add_drams.ensures.cells ∙ ap (λ cells. cells ++ dram_cells 0 (map plain_port c.deref-2.result.now)) c.in_ok-ports.ensures.cells)
    ∙ no_units (map plain_port c.deref.result.now) c.in_ok-ports.ports.items (map plain_port c.deref-2.result.now)

pub add_arrays-requires-clause-draft : goal.add_arrays-requires-clause-draft
add_arrays-requires-clause-draft c = c.in_ok-transfers.ensures.draft

pub add_arrays-requires-clause-first : goal.add_arrays-requires-clause-first
add_arrays-requires-clause-first c =
    sym (c.in_ok-transfers.ensures.bank_count ∙ (c.port_laws.ensures.no_banks c.add_drams.new.builder (map plain_port c.deref.result.now) c.in_ok-ports.ports.items (map plain_port c.deref-2.result.now)
    (c.in_ok-add_drams.ensures.cells ∙ ap (λ cells. cells ++ dram_cells 0 (map plain_port c.deref-2.result.now)) c.in_ok-ports.ensures.cells)).0)

pub hold-requires-clause-enable : goal.hold-requires-clause-enable
hold-requires-clause-enable c = HasNet-stays c.one.new.builder c.constant.new.builder c.in_ok-always.always 1 c.in_ok-zero.ensures.fills.grows c.in_ok-always.ensures.one.net_stands

pub emit_stored_core-requires-clause-arguments : goal.emit_stored_core-requires-clause-arguments
emit_stored_core-requires-clause-arguments c =
    let core = plain_core c.args.core.now in
    let args_are = ap (map plain_port) c.deref.ensures.value ∙ ap (λ (p : PlainPorts). p.args) c.ports.ensures.ports in
    let grows = grown c.add_drams.new.builder c.add_arrays.new.builder c.one.new.builder c.constant.new.builder c.hold.new.builder (unit_wires_in c.in_ok-transfers.transfers.units.items ++ wires_in c.in_ok-arrays.arrays.items)
    (promises_join c.add_drams.new.builder c.add_units.new.builder c.add_arrays.new.builder (unit_wires_in c.in_ok-transfers.transfers.units.items) (wires_in c.in_ok-arrays.arrays.items) c.in_ok-transfers.ensures.promises c.in_ok-arrays.ensures.promises) c.in_ok-always.ensures.fills
    c.in_ok-zero.ensures.fills c.in_ok-start.ensures.fills in
    args_stand core c.ports.ensures.core c.port_laws.ensures c.arguments_are_ports.ensures c.outputs_are_ports.ensures c.add_drams.new.builder c.hold.new.builder c.in_ok-ports.ports.items grows
    (subst (λ ps. HaveNets c.add_drams.new.builder ps c.in_ok-ports.ports.items) args_are (c.port_laws.ensures.nets_stay c.add_inputs.new.builder c.add_drams.new.builder (map plain_port c.deref.result.now) c.in_ok-ports.ports.items c.in_ok-add_drams.ensures.builds.grows c.in_ok-ports.ensures.nets)) c.deref-4.result.now (ap length c.deref-4.ensures.value ∙ c.in_ok-arguments.ensures.each)
    (c.deref-4.ensures.value ∙ c.in_ok-arguments.ensures.nets ∙ ap (nets_of_arguments core.mems) c.deref-3.ensures.value)

pub emit_stored_core-requires-clause-arrays : goal.emit_stored_core-requires-clause-arrays
emit_stored_core-requires-clause-arrays c =
    let core = plain_core c.args.core.now in
    let plan = plain_plan c.args.plan.now in
    let arrays = c.in_ok-arrays.arrays.items in
    let stored = c.add_arrays.new.builder in
    let grows = (Fills-join stored c.one.new.builder c.hold.new.builder [] [] c.in_ok-always.ensures.fills (Fills-join c.one.new.builder c.constant.new.builder c.hold.new.builder [] [] c.in_ok-zero.ensures.fills c.in_ok-start.ensures.fills)).grows in
    subst (ArraysStand c.hold.new.builder core plan) (sym c.deref-5.ensures.value)
    (c.arrays_stay.ensures stored c.hold.new.builder core plan arrays grows
    (λ net there. open_later stored c.one.new.builder c.constant.new.builder c.hold.new.builder c.in_ok-always.ensures.fills c.in_ok-zero.ensures.fills c.in_ok-start.ensures.fills net
    (c.arrays_are_open.ensures stored core plan arrays c.in_ok-arrays.ensures.stand net there)) c.in_ok-arrays.ensures.stand)

pub emit_stored_core-requires-clause-transfers : goal.emit_stored_core-requires-clause-transfers
emit_stored_core-requires-clause-transfers c =
    let core = plain_core c.args.core.now in
    let units = c.in_ok-transfers.transfers.units.items in
    let l = c.in_ok-transfers.ensures in
    subst (λ xs. TransfersStand c.hold.new.builder core units c.in_ok-transfers.transfers.ends.items (wires_in xs)) (sym c.deref-5.ensures.value)
    (transfers_stand core c.add_units.new.builder c.add_arrays.new.builder c.one.new.builder c.constant.new.builder c.hold.new.builder units c.in_ok-transfers.transfers.ends.items (wires_in c.in_ok-arrays.arrays.items) (length c.add_drams.new.builder.promised) c.units_are_open.ensures c.units_stay.ensures l.stand
    (l.ends c.requires.stored.timed) l.done l.rise c.in_ok-arrays.ensures.promises c.in_ok-always.ensures.fills c.in_ok-zero.ensures.fills c.in_ok-start.ensures.fills)

pub hold-requires-2-clause-enable : goal.hold-requires-2-clause-enable
hold-requires-2-clause-enable c =
    let wires = unit_wires_in c.in_ok-transfers.transfers.units.items ++ wires_in c.in_ok-arrays.arrays.items in
    let tree = subst (λ xs. Fills c.hold.new.builder c.emit_stored_core.new.builder (unit_wires_in c.in_ok-transfers.transfers.units.items ++ wires_in xs)) c.deref-5.ensures.value c.in_ok-tree.ensures.fills in
    let grows = (Fills-join c.one.new.builder c.constant.new.builder c.emit_stored_core.new.builder [] wires c.in_ok-zero.ensures.fills (Fills-join c.constant.new.builder c.hold.new.builder c.emit_stored_core.new.builder [] wires c.in_ok-start.ensures.fills tree)).grows in
    HasNet-stays c.one.new.builder c.emit_stored_core.new.builder c.in_ok-always.always 1 grows c.in_ok-always.ensures.one.net_stands

pub close_frame-requires-clause-none_open : goal.close_frame-requires-clause-none_open
close_frame-requires-clause-none_open c =
    let tree = subst (λ xs. Fills c.hold.new.builder c.emit_stored_core.new.builder (unit_wires_in c.in_ok-transfers.transfers.units.items ++ wires_in xs)) c.deref-5.ensures.value c.in_ok-tree.ensures.fills in
    closed c.tap_laws.ensures c.add_drams.new.builder c.add_arrays.new.builder c.one.new.builder c.constant.new.builder c.hold.new.builder c.emit_stored_core.new.builder c.hold-2.new.builder (unit_wires_in c.in_ok-transfers.transfers.units.items ++ wires_in c.in_ok-arrays.arrays.items)
    (λ net o. c.in_ok-ports.ensures.none_open net (c.in_ok-add_drams.ensures.builds.no_other net o).0)
    (promises_join c.add_drams.new.builder c.add_units.new.builder c.add_arrays.new.builder (unit_wires_in c.in_ok-transfers.transfers.units.items) (wires_in c.in_ok-arrays.arrays.items) c.in_ok-transfers.ensures.promises c.in_ok-arrays.ensures.promises) c.in_ok-always.ensures.fills c.in_ok-zero.ensures.fills c.in_ok-start.ensures.fills tree c.in_ok-done.ensures.fills

pub close_frame-requires-clause-no_end : goal.close_frame-requires-clause-no_end
close_frame-requires-clause-no_end c =
    let tree = subst (λ xs. Fills c.hold.new.builder c.emit_stored_core.new.builder (unit_wires_in c.in_ok-transfers.transfers.units.items ++ wires_in xs)) c.deref-5.ensures.value c.in_ok-tree.ensures.fills in
    c.port_laws.ensures.no_end c.add_drams.new.builder c.hold-2.new.builder (map plain_port c.deref.result.now) c.in_ok-ports.ports.items (map plain_port c.deref-2.result.now) (c.in_ok-add_drams.ensures.cells ∙ ap (λ cells. cells ++ dram_cells 0 (map plain_port c.deref-2.result.now)) c.in_ok-ports.ensures.cells)
    (inside c.port_laws.ensures c.add_drams.new.builder c.add_units.new.builder c.add_arrays.new.builder c.one.new.builder c.constant.new.builder c.hold.new.builder c.emit_stored_core.new.builder c.hold-2.new.builder (unit_wires_in c.in_ok-transfers.transfers.units.items ++ wires_in c.in_ok-arrays.arrays.items)
    c.in_ok-transfers.ensures.cells c.in_ok-arrays.ensures.cells c.in_ok-always.ensures.fills c.in_ok-zero.ensures.fills c.in_ok-start.ensures.fills tree c.in_ok-done.ensures.fills)

pub close_frame-requires-clause-no_output : goal.close_frame-requires-clause-no_output
close_frame-requires-clause-no_output c =
    let tree = subst (λ xs. Fills c.hold.new.builder c.emit_stored_core.new.builder (unit_wires_in c.in_ok-transfers.transfers.units.items ++ wires_in xs)) c.deref-5.ensures.value c.in_ok-tree.ensures.fills in
    c.port_laws.ensures.no_output c.add_drams.new.builder c.hold-2.new.builder (map plain_port c.deref.result.now) c.in_ok-ports.ports.items (map plain_port c.deref-2.result.now) (c.in_ok-add_drams.ensures.cells ∙ ap (λ cells. cells ++ dram_cells 0 (map plain_port c.deref-2.result.now)) c.in_ok-ports.ensures.cells)
    (inside c.port_laws.ensures c.add_drams.new.builder c.add_units.new.builder c.add_arrays.new.builder c.one.new.builder c.constant.new.builder c.hold.new.builder c.emit_stored_core.new.builder c.hold-2.new.builder (unit_wires_in c.in_ok-transfers.transfers.units.items ++ wires_in c.in_ok-arrays.arrays.items)
    c.in_ok-transfers.ensures.cells c.in_ok-arrays.ensures.cells c.in_ok-always.ensures.fills c.in_ok-zero.ensures.fills c.in_ok-start.ensures.fills tree c.in_ok-done.ensures.fills)

pub close_frame-requires-clause-named : goal.close_frame-requires-clause-named
close_frame-requires-clause-named c =
    let outs_are = ap (map plain_port) c.deref-7.ensures.value ∙ ap (λ (p : PlainPorts). p.outs) c.ports-3.ensures.ports in
    subst AreNamed (sym outs_are) (outs_named (plain_core c.args.core.now) c.ports.ensures.core c.port_laws.ensures c.arguments_are_ports.ensures c.outputs_are_ports.ensures)

pub close_frame-requires-clause-nets : goal.close_frame-requires-clause-nets
close_frame-requires-clause-nets c =
    let core = plain_core c.args.core.now in
    let outs_are = ap (map plain_port) c.deref-7.ensures.value ∙ ap (λ (p : PlainPorts). p.outs) c.ports-3.ensures.ports in
    let nets_are = c.deref-8.ensures.value ∙ c.in_ok-outs.ensures ∙ ap (λ ws. map (slice_index ws) (outs_of core)) c.deref-6.ensures.value in
    subst (λ ps. HaveNets c.hold-2.new.builder ps c.deref-8.result.now) (sym outs_are)
    (subst (HaveNets c.hold-2.new.builder core.ports.outs) (sym nets_are)
    (outs_stand core c.ports.ensures.core c.port_laws.ensures c.arguments_are_ports.ensures c.outputs_are_ports.ensures c.emit_stored_core.new.builder c.hold-2.new.builder c.in_ok-tree.tree.words.items c.in_ok-done.ensures.fills.grows c.in_ok-tree.ensures.words))

pub returns-clause-carries : goal.returns-clause-carries
returns-clause-carries c =
    let core = plain_core c.args.core.now in
    let plan = plain_plan c.args.plan.now in
    let arrays = c.in_ok-arrays.arrays.items in
    let args_are = ap (map plain_port) c.deref.ensures.value ∙ ap (λ (p : PlainPorts). p.args) c.ports.ensures.ports in
    let drams_are = ap (map plain_port) c.deref-2.ensures.value ∙ ap (λ (p : PlainPorts). p.drams) c.ports-2.ensures.ports in
    let outs_are = ap (map plain_port) c.deref-7.ensures.value ∙ ap (λ (p : PlainPorts). p.outs) c.ports-3.ensures.ports in
    let nets_are = c.deref-8.ensures.value ∙ c.in_ok-outs.ensures ∙ ap (λ ws. map (slice_index ws) (outs_of core)) c.deref-6.ensures.value in
    let tree = subst (λ xs. Fills c.hold.new.builder c.emit_stored_core.new.builder (unit_wires_in c.in_ok-transfers.transfers.units.items ++ wires_in xs)) c.deref-5.ensures.value c.in_ok-tree.ensures.fills in
    let final = c.hold-2.new.builder in
    let cells_are = c.in_ok-netlist.ensures.cells ∙ ap (λ ps. final.cells ++ out_cells ps c.deref-8.result.now ++ done_cell c.in_ok-done.done ∷ []) outs_are ∙ ap (λ ns. final.cells ++ out_cells core.ports.outs ns ++ done_cell c.in_ok-done.done ∷ []) nets_are in
    let front = c.in_ok-add_drams.ensures.cells ∙ ap (λ cells. cells ++ dram_cells 0 (map plain_port c.deref-2.result.now)) c.in_ok-ports.ensures.cells
    ∙ ap (λ ps. front_cells ps c.in_ok-ports.ports.items (map plain_port c.deref-2.result.now)) args_are ∙ ap (λ ps. front_cells core.ports.args c.in_ok-ports.ports.items ps) drams_are in
    let steps : Steps core plan c.add_drams.new.builder c.add_units.new.builder c.add_arrays.new.builder c.one.new.builder c.constant.new.builder c.hold.new.builder c.emit_stored_core.new.builder c.hold-2.new.builder c.in_ok-ports.ports.items (unit_wires_in c.in_ok-transfers.transfers.units.items ++ wires_in arrays)
    c.in_ok-always.always c.in_ok-zero.zero c.in_ok-start.start c.in_ok-tree.tree.child c.deref-4.result.now c.in_ok-tree.tree.words.items c.in_ok-transfers.transfers.units.items c.in_ok-done.done = record {
      front = front;
      have = subst (λ ps. HaveNets c.add_drams.new.builder ps c.in_ok-ports.ports.items) args_are (c.port_laws.ensures.nets_stay c.add_inputs.new.builder c.add_drams.new.builder (map plain_port c.deref.result.now) c.in_ok-ports.ports.items c.in_ok-add_drams.ensures.builds.grows c.in_ok-ports.ensures.nets);
      units = c.in_ok-transfers.ensures.cells;
      stores = c.in_ok-transfers.ensures.stores;
      banks = c.in_ok-arrays.ensures.cells;
      no_conflict = λ bank within. c.arrays_share_none.ensures c.add_arrays.new.builder core plan arrays c.in_ok-arrays.ensures.stand c.in_ok-arrays.ensures.numbers (let e = c.in_ok-arrays.ensures.count in omega (arith, e)) bank within;
      one = c.in_ok-always.ensures.fills;
      is_one = c.in_ok-always.ensures.one;
      none = c.in_ok-zero.ensures.fills;
      is_zero = c.in_ok-zero.ensures.word;
      held = c.in_ok-start.ensures.fills;
      starts = c.in_ok-start.ensures.word;
      tree = tree;
      begins = c.in_ok-tree.ensures.start;
      arguments_are = c.deref-4.ensures.value ∙ c.in_ok-arguments.ensures.nets ∙ ap (nets_of_arguments core.mems) c.deref-3.ensures.value;
      circuit = c.in_ok-tree.ensures.circuit;
      last = c.in_ok-done.ensures.fills;
      dones = c.in_ok-done.ensures.word;
    } in
    carried core plan c.requires c.ports.ensures.core c.port_laws.ensures c.arguments_are_ports.ensures c.outputs_are_ports.ensures c.add_drams.new.builder c.add_units.new.builder c.add_arrays.new.builder c.one.new.builder c.constant.new.builder c.hold.new.builder
    c.emit_stored_core.new.builder c.hold-2.new.builder c.in_ok-ports.ports.items (unit_wires_in c.in_ok-transfers.transfers.units.items ++ wires_in arrays) c.in_ok-always.always c.in_ok-zero.zero c.in_ok-start.start c.in_ok-tree.tree.child c.deref-4.result.now c.in_ok-tree.tree.words.items c.in_ok-transfers.transfers.units.items c.in_ok-done.done
    steps c.frame_laws.ensures c.frames_end.ensures c.taps_share_none.ensures (c.stored_cores_go.ensures core plan) c.drams_run.ensures c.units_join.ensures (c.drams_keep_sizes.ensures core) (c.first_words_given.ensures core) (c.delays_are_there.ensures core) c.delays_are_small.ensures c.arguments_have_words.ensures c.one_run.ensures c.in_ok-netlist.netlist cells_are c.in_ok-netlist.ensures.netlist
