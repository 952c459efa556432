-- The part of a store may be emitted, and which nets it drives.
use Rattle.std.proofs.Common.{◌≡◌, ℕ, zero, suc, ◌↔◌, List, [], ◌∷◌, ◌++◌, length, map, Contains, All, sym, ap, subst, ◌∙◌, arith}
use Rattle.std.proofs.lemmas.List.{length-map}
use Rattle.sp_netlist.specs.Draft.{Draft}
use Rattle.sp_netlist.specs.Rules.{IsWidth}
use Rattle.sp_taps.specs.Wires.{IsWire}
use Rattle.sp_gates.specs.Grows.{Grows, Fills}
use Rattle.sp_gates.specs.Nets.{HasNet, Awaits}
use Rattle.sp_gates.proofs.Growing.{same_nets}
use Rattle.sp_words.specs.Types.{width_of}
use Rattle.sp_core.specs.Declarations.{mem, dram}
use Rattle.sp_core.specs.PlainCore.{PlainCore}
use Rattle.sp_slices.specs.declared.part.Move.{Move}
use Rattle.sp_slices.specs.Fits.{MoveFits}
use Rattle.sp_channels.specs.declared.ports.StorePort.{StorePort}
use Rattle.sp_channels.specs.Ports.{AreStoreWires}
use Rattle.sp_channels.specs.Units.{IsStoreUnit}
use Rattle.sp_xfer.specs.declared.part.Store.{Store}
use Rattle.sp_xfer.specs.declared.part.Wires.{Wires}
use Rattle.sp_xfer.specs.Fits.{WiresFit, StoreFits}
use Rattle.sp_transfer_runs.specs.Words.{move_of, moves_of}
use Rattle.sp_bound_nets.specs.declared.spans.SpanNet.{SpanNet}
use Rattle.sp_bound_nets.specs.Spans.{net_of_span, nets_of_spans}
use Rattle.sp_op_nets.specs.Reserved.{Rise}
use Rattle.sp_tree_handed.specs.declared.moves.TreeMove.{TreeMove}
use Rattle.sp_load_units.specs.declared.unit.TransferUnit.{TransferUnit}
use Rattle.sp_load_units.specs.declared.unit.UnitPort.{UnitPort}
use Rattle.sp_load_units.specs.Ports.{PortRuns, PortWires, port_wires}
use Rattle.sp_load_units.specs.Units.{unit_wires}
use Rattle.sp_load_units.specs.Walks.{UnitStandsAlone}
use Rattle.sp_lower.specs.LoadsParts.{SliceStands}
use Rattle.sp_lower.proofs.LoadsAdding.{slices_later}
use Rattle.sp_lower.proofs.LoadsFitting.{moves_are, moves_fit, apart_in}
use Rattle.sp_lower.specs.StoresParts.{IsStorePart}

pub moves_taken : (nets : List SpanNet) → map (λ net. move_of (net_of_span net)) nets ≡ moves_of (nets_of_spans nets)
moves_taken nets = moves_are nets

-- the net of a reader is that of the part
module _ (d : Draft) (core : PlainCore) (unit : TransferUnit) (slice : TreeMove) (found width : ℕ) (part : Store) (p : IsStorePart core unit slice found width part) where
  pub own_net : HasNet d found width → HasNet d part.found part.width
  own_net h = subst (λ n. HasNet d n part.width) (sym p.found) (subst (HasNet d found) (sym p.width) h)

  pub own_awaits : Awaits d found width → Awaits d part.found part.width
  own_awaits h = subst (λ n. Awaits d n part.width) (sym p.found) (subst (Awaits d found) (sym p.width) h)

-- a slice stands in a later draft
pub slice_later : (a b : Draft) (core : PlainCore) (unit : TransferUnit) (slice : TreeMove) → Grows a b → SliceStands a core unit slice → SliceStands b core unit slice
slice_later a b core unit slice g h = (slices_later a b core (unit ∷ []) (slice ∷ []) g (h, tt)).0

-- the wires of a start and a unit
abbrev by_port : (start : ℕ) → StorePort → Wires
by_port start port = record { start = start; ready = port.ready; request = port.request; last = port.last; address = port.address }

module _ (d : Draft) (core : PlainCore) (unit : TransferUnit) (slice : TreeMove) (found width : ℕ) (part : Store) (u : UnitStandsAlone d core unit) (rise : Rise 0 (unit_wires unit)) (m : SliceStands d core unit slice) (p : IsStorePart core unit slice found width part) where
  runs : IsStoreUnit d u.channel unit.transfer.dram part.port
  runs = subst (PortRuns d u.channel unit.transfer.dram (width_of (dram core unit.transfer.dram).ty)) p.port u.runs

  wires : AreStoreWires d (width_of (dram core unit.transfer.dram).ty) part.port
  wires = subst (PortWires d (width_of (dram core unit.transfer.dram).ty)) p.port u.wires

  up : Rise 0 (part.port.request ∷ part.port.last ∷ part.port.address ∷ part.port.word ∷ unit.done ∷ [])
  up = subst (λ port. Rise 0 (port_wires port ++ unit.done ∷ [])) p.port rise

  wires_fit : WiresFit d (by_port slice.start part.port)
  wires_fit = record {
    start = m.start;
    ready = runs.ready;
    request = wires.request;
    last = wires.last;
    address = wires.address;
    request_last = apart_in _ _ up.1.0;
    request_address = (let a = up.1.0 in let b = up.1.1.0 in omega (arith, a, b));
    last_address = apart_in _ _ up.1.1.0;
  }

  pub store_fits : width ≡ width_of (mem core unit.transfer.mem).ty → IsWidth width → HasNet d found width → StoreFits d part
  store_fits wide some net = record {
    wires = subst (λ start. WiresFit d (by_port start part.port)) (sym p.start) wires_fit;
    slice = record {
      moves_fit = subst (All (MoveFits d)) (sym p.moves) (moves_fit d slice.nets.items m.nets);
      each = ap (λ (ns : List ℕ). length ns) p.dims ∙ m.each ∙ sym (length-map slice.nets.items net_of_span) ∙ sym (length-map (nets_of_spans slice.nets.items) move_of) ∙ ap (λ (ms : List Move). length ms) (sym p.moves);
    };
    width = subst IsWidth (sym p.width) some;
    word_wire = subst (IsWire d part.port.word) (sym u.of_core.one_width ∙ sym wide ∙ sym p.width) wires.word;
    request_word = (let a = up.1.0 in let b = up.1.1.0 in let c = up.1.1.1.0 in omega (arith, a, b, c));
    last_word = (let b = up.1.1.0 in let c = up.1.1.1.0 in omega (arith, b, c));
    address_word = apart_in _ _ up.1.1.1.0;
    found = own_net d core unit slice found width part p net;
  }

-- the nets of a store in another order
in_order : (a b c w e net : ℕ) → Contains (e ∷ a ∷ b ∷ c ∷ w ∷ []) net ↔ Contains (a ∷ b ∷ c ∷ w ∷ e ∷ []) net
in_order a b c w e net = (there, back)
  where
    there : Contains (e ∷ a ∷ b ∷ c ∷ w ∷ []) net → Contains (a ∷ b ∷ c ∷ w ∷ e ∷ []) net
    there (zero, l, is) = (4, omega arith, is)
    there (suc zero, l, is) = (0, omega arith, is)
    there (suc (suc zero), l, is) = (1, omega arith, is)
    there (suc (suc (suc zero)), l, is) = (2, omega arith, is)
    there (suc (suc (suc (suc zero))), l, is) = (3, omega arith, is)
    there (suc (suc (suc (suc (suc k)))), l, is) = absurd (omega (arith, l))

    back : Contains (a ∷ b ∷ c ∷ w ∷ e ∷ []) net → Contains (e ∷ a ∷ b ∷ c ∷ w ∷ []) net
    back (zero, l, is) = (1, omega arith, is)
    back (suc zero, l, is) = (2, omega arith, is)
    back (suc (suc zero), l, is) = (3, omega arith, is)
    back (suc (suc (suc zero)), l, is) = (4, omega arith, is)
    back (suc (suc (suc (suc zero))), l, is) = (0, omega arith, is)
    back (suc (suc (suc (suc (suc k)))), l, is) = absurd (omega (arith, l))

pub store_fills : (a b : Draft) (core : PlainCore) (unit : TransferUnit) (slice : TreeMove) (found width : ℕ) (part : Store) → IsStorePart core unit slice found width part
    → Fills a b (unit.done ∷ part.port.request ∷ part.port.last ∷ part.port.address ∷ part.port.word ∷ []) → Fills a b (unit_wires unit)
store_fills a b core unit slice found width part p f =
    subst (λ (port : UnitPort). Fills a b (port_wires port ++ unit.done ∷ [])) (sym p.port)
    (same_nets a b (unit.done ∷ part.port.request ∷ part.port.last ∷ part.port.address ∷ part.port.word ∷ []) (part.port.request ∷ part.port.last ∷ part.port.address ∷ part.port.word ∷ unit.done ∷ [])
    (in_order part.port.request part.port.last part.port.address part.port.word unit.done) f)
