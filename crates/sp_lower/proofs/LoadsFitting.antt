-- The part of a load may be emitted, and which nets it drives.
use Rattle.std.proofs.Common.{◌≡◌, ◌≢◌, ℕ, zero, suc, ◌≤◌, ◌↔◌, List, [], ◌∷◌, ◌++◌, length, map, Contains, All, refl, sym, ap, subst, ◌∙◌, arith}
use Rattle.std.proofs.lemmas.List.{length-map}
use Rattle.std.proofs.lemmas.List.Elements.{All-nil, All-cons, All-head, All-tail}
use Rattle.sp_netlist.specs.Draft.{Draft}
use Rattle.sp_gates.specs.Grows.{Fills}
use Rattle.sp_gates.proofs.Growing.{same_nets}
use Rattle.sp_words.specs.Types.{width_of}
use Rattle.sp_core.specs.Declarations.{dram}
use Rattle.sp_core.specs.PlainCore.{PlainCore}
use Rattle.sp_slices.specs.declared.part.Move.{Move}
use Rattle.sp_slices.specs.Fits.{MoveFits}
use Rattle.sp_channels.specs.declared.ports.LoadPort.{LoadPort}
use Rattle.sp_channels.specs.Ports.{AreLoadWires}
use Rattle.sp_channels.specs.Units.{IsLoadUnit}
use Rattle.sp_xfer.specs.declared.part.Load.{Load}
use Rattle.sp_xfer.specs.declared.part.Wires.{Wires}
use Rattle.sp_xfer.specs.Fits.{WiresFit, LoadFits}
use Rattle.sp_transfer_runs.specs.Words.{move_of, moves_of}
use Rattle.sp_bound_nets.specs.declared.spans.SpanNet.{SpanNet}
use Rattle.sp_bound_nets.specs.declared.spans.SpanNet.TheVariants.{One, Range}
use Rattle.sp_bound_nets.specs.Spans.{net_of_span, nets_of_spans, HasEnds}
use Rattle.sp_op_nets.specs.Reserved.{Rise}
use Rattle.sp_tree_handed.specs.declared.moves.TreeMove.{TreeMove}
use Rattle.sp_load_units.specs.declared.unit.TransferUnit.{TransferUnit}
use Rattle.sp_load_units.specs.declared.unit.UnitPort.{UnitPort}
use Rattle.sp_load_units.specs.declared.unit.UnitPort.TheVariants.{Loads}
use Rattle.sp_load_units.specs.Ports.{PortRuns, PortWires, port_wires}
use Rattle.sp_load_units.specs.Units.{unit_wires}
use Rattle.sp_load_units.specs.Walks.{UnitStandsAlone}
use Rattle.sp_lower.specs.LoadsParts.{SliceStands, IsPartOf}

pub moves_are : (nets : List SpanNet) → map (λ net. move_of (net_of_span net)) nets ≡ moves_of (nets_of_spans nets)
moves_are [] = refl
moves_are (net ∷ nets) = ap (λ ms. move_of (net_of_span net) ∷ ms) (moves_are nets)

move_fits : (d : Draft) (net : SpanNet) → HasEnds d net → MoveFits d (move_of (net_of_span net))
move_fits d (One net) h = h
move_fits d (Range from until) h = h

pub moves_fit : (d : Draft) (nets : List SpanNet) → All (HasEnds d) nets → All (MoveFits d) (moves_of (nets_of_spans nets))
moves_fit d [] h = All-nil (MoveFits d)
moves_fit d (net ∷ nets) h = All-cons (MoveFits d) (move_of (net_of_span net)) (moves_of (nets_of_spans nets)) (move_fits d net (All-head (HasEnds d) net nets h)) (moves_fit d nets (All-tail (HasEnds d) net nets h))

-- the wires of a start and a unit
abbrev by_port : (start : ℕ) → LoadPort → Wires
by_port start port = record { start = start; ready = port.ready; request = port.request; last = port.last; address = port.address }

-- numbers that rise are apart
pub apart_in : (a b : ℕ) → suc a ≤ b → a ≢ b
apart_in a b l = omega (arith, l)

wires_fit : (d : Draft) (core : PlainCore) (unit : TransferUnit) (port : LoadPort) (slice : TreeMove) → unit.port ≡ Loads port → UnitStandsAlone d core unit → Rise 0 (unit_wires unit) → SliceStands d core unit slice → WiresFit d (by_port slice.start port)
wires_fit d core unit port slice is u rise m =
    let width : ℕ = width_of (dram core unit.transfer.dram).ty in
    let runs : IsLoadUnit d u.channel unit.transfer.dram width port = subst (PortRuns d u.channel unit.transfer.dram width) is u.runs in
    let wires : AreLoadWires d port = subst (PortWires d width) is u.wires in
    let up : Rise 0 (port.request ∷ port.last ∷ port.address ∷ unit.done ∷ []) = subst (λ p. Rise 0 (port_wires p ++ unit.done ∷ [])) is rise in
    record {
      start = m.start;
      ready = runs.ready;
      request = wires.request;
      last = wires.last;
      address = wires.address;
      request_last = apart_in _ _ up.1.0;
      request_address = (let a = up.1.0 in let b = up.1.1.0 in omega (arith, a, b));
      last_address = apart_in _ _ up.1.1.0;
    }

pub load_fits : (d : Draft) (core : PlainCore) (unit : TransferUnit) (slice : TreeMove) (part : Load) → UnitStandsAlone d core unit → Rise 0 (unit_wires unit) → SliceStands d core unit slice
    → IsPartOf core unit slice part → LoadFits d part
load_fits d core unit slice part u rise m p = record {
  wires = subst (λ start. WiresFit d (by_port start part.port)) (sym p.start) (wires_fit d core unit part.port slice p.port u rise m);
  slice = record {
    moves_fit = subst (All (MoveFits d)) (sym p.moves) (moves_fit d slice.nets.items m.nets);
    each = ap (λ (ns : List ℕ). length ns) p.dims ∙ m.each ∙ sym (length-map slice.nets.items net_of_span) ∙ sym (length-map (nets_of_spans slice.nets.items) move_of) ∙ ap (λ (ms : List Move). length ms) (sym p.moves);
  };
}

-- the nets of a load in another order
in_order : (a b c e net : ℕ) → Contains (e ∷ a ∷ b ∷ c ∷ []) net ↔ Contains (a ∷ b ∷ c ∷ e ∷ []) net
in_order a b c e net = (there, back)
  where
    there : Contains (e ∷ a ∷ b ∷ c ∷ []) net → Contains (a ∷ b ∷ c ∷ e ∷ []) net
    there (zero, l, is) = (3, omega arith, is)
    there (suc zero, l, is) = (0, omega arith, is)
    there (suc (suc zero), l, is) = (1, omega arith, is)
    there (suc (suc (suc zero)), l, is) = (2, omega arith, is)
    there (suc (suc (suc (suc k))), l, is) = absurd (omega (arith, l))

    back : Contains (a ∷ b ∷ c ∷ e ∷ []) net → Contains (e ∷ a ∷ b ∷ c ∷ []) net
    back (zero, l, is) = (1, omega arith, is)
    back (suc zero, l, is) = (2, omega arith, is)
    back (suc (suc zero), l, is) = (3, omega arith, is)
    back (suc (suc (suc zero)), l, is) = (0, omega arith, is)
    back (suc (suc (suc (suc k))), l, is) = absurd (omega (arith, l))

pub load_fills : (a b : Draft) (core : PlainCore) (unit : TransferUnit) (slice : TreeMove) (part : Load) → IsPartOf core unit slice part
    → Fills a b (unit.done ∷ part.port.request ∷ part.port.last ∷ part.port.address ∷ []) → Fills a b (unit_wires unit)
load_fills a b core unit slice part p f =
    subst (λ (port : UnitPort). Fills a b (port_wires port ++ unit.done ∷ [])) (sym p.port)
    (same_nets a b (unit.done ∷ part.port.request ∷ part.port.last ∷ part.port.address ∷ []) (part.port.request ∷ part.port.last ∷ part.port.address ∷ unit.done ∷ []) (in_order part.port.request part.port.last part.port.address unit.done) f)
