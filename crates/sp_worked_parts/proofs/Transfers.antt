-- That the worked transfers can be emitted.
use Rattle.std.proofs.Common.{◌≡◌, ◌≢◌, ℕ, zero, suc, ◌++◌, List, [], ◌∷◌, length, Contains, refl, sym, ap, subst, ◌∙◌, arith}
use Rattle.sp_netlist.specs.Draft.{Draft}
use Rattle.sp_gates.specs.Grows.{Builds, Fills}
use Rattle.sp_gates.specs.Nets.{HasNet, Awaits}
use Rattle.sp_gates.proofs.Growing.{Fills-join}
use Rattle.sp_mem.proofs.Waiting.{awaits_open, awaits_beside, awaits_kept}
use Rattle.sp_taps.specs.Wires.{Promises}
use Rattle.sp_taps.proofs.Promised.{driven}
use Rattle.sp_channels.specs.declared.ports.LoadPort.{LoadPort}
use Rattle.sp_channels.specs.declared.ports.StorePort.{StorePort}
use Rattle.sp_channels.specs.Ports.{IsLoadRow, IsStoreRow, AreLoadWires, AreStoreWires}
use Rattle.sp_slices.specs.declared.part.Move.{Move}
use Rattle.sp_slices.specs.Fits.{MoveFits}
use Rattle.sp_xfer.specs.declared.part.Load.{Load}
use Rattle.sp_xfer.specs.declared.part.Store.{Store}
use Rattle.sp_xfer.specs.Fits.{WiresFit, SliceFits, LoadFits, StoreFits}
use Rattle.sp_xfer.specs.Moving.{wires_of}
use Rattle.sp_xfer.specs.Ahead.{store_wires_of}
use Rattle.sp_xfer.proofs.Keeping.{wire_kept}
use Rattle.sp_worked_parts.specs.Slices.{IsLoad, IsStore}
use Rattle.sp_worked_parts.proofs.Closing.{awaits_promises}
use Rattle.sp_worked_parts.proofs.Fitting.{all_one}

range_fits : (d : Draft) (from until : ℕ) (dims : List ℕ) (moves : List Move) → dims ≡ 24 ∷ [] → moves ≡ Move.Range from until ∷ [] → HasNet d from 32 → HasNet d until 32 → SliceFits d dims moves
range_fits d from until dims moves e f x y = record { moves_fit = all_one (MoveFits d) moves (Move.Range from until) f (x, y); each = ap length e ∙ sym (ap length f) }

pub load_fits : (a d : Draft) (first start from until : ℕ) (port : LoadPort) (part : Load) → IsLoad start port from until part → IsLoadRow first port → AreLoadWires a port → Fills a d [] → HasNet d port.ready 1 → HasNet d start 1 → HasNet d from 32 → HasNet d until 32
    → LoadFits d part
load_fits a d first start from until port part h row w f ready s x y = record {
  wires = subst (WiresFit d) (sym wires_are) (record {
    start = s;
    ready = ready;
    request = wire_kept a d port.request 1 f w.request;
    last = wire_kept a d port.last 1 f w.last;
    address = wire_kept a d port.address 32 f w.address;
    request_last = let i = row.request in let k = row.last in λ e. absurd (omega (arith, i, k, e));
    request_address = let i = row.request in let k = row.address in λ e. absurd (omega (arith, i, k, e));
    last_address = let i = row.last in let k = row.address in λ e. absurd (omega (arith, i, k, e));
  });
  slice = range_fits d from until part.dims.items part.moves.items h.dims_are h.moves_are x y;
}
  where
    wires_are : wires_of part ≡ record { start = start; ready = port.ready; request = port.request; last = port.last; address = port.address }
    wires_are = rw (h.start_is, h.port_is) refl

pub store_fits : (a d : Draft) (first start from until word : ℕ) (port : StorePort) (part : Store) → IsStore start port from until word part → IsStoreRow first port → AreStoreWires a 32 port → Fills a d [] → HasNet d port.ready 1 → HasNet d start 1 → HasNet d from 32 → HasNet d until 32 → HasNet d word 32
    → StoreFits d part
store_fits a d first start from until word port part h row w f ready s x y z = record {
  wires = subst (WiresFit d) (sym wires_are) (record {
    start = s;
    ready = ready;
    request = wire_kept a d port.request 1 f w.request;
    last = wire_kept a d port.last 1 f w.last;
    address = wire_kept a d port.address 32 f w.address;
    request_last = let i = row.request in let k = row.last in λ e. absurd (omega (arith, i, k, e));
    request_address = let i = row.request in let k = row.address in λ e. absurd (omega (arith, i, k, e));
    last_address = let i = row.last in let k = row.address in λ e. absurd (omega (arith, i, k, e));
  });
  slice = range_fits d from until part.dims.items part.moves.items h.dims_are h.moves_are x y;
  width = let e = h.width_is in (omega (arith, e), omega (arith, e));
  word_wire = rw (h.width_is, h.port_is) (wire_kept a d port.word 32 f w.word);
  request_word = rw h.port_is (let i = row.request in let k = row.word in λ e. absurd (omega (arith, i, k, e)));
  last_word = rw h.port_is (let i = row.last in let k = row.word in λ e. absurd (omega (arith, i, k, e)));
  address_word = rw h.port_is (let i = row.address in let k = row.word in λ e. absurd (omega (arith, i, k, e)));
  found = rw (h.width_is, h.found_is) z;
}
  where
    wires_are : store_wires_of part ≡ record { start = start; ready = port.ready; request = port.request; last = port.last; address = port.address }
    wires_are = rw (h.start_is, h.port_is) refl

-- a net that awaited its driver before the nets of a unit were promised still does where these are driven
pub awaits_unit : (a b c d : Draft) (net : ℕ) (nets : List ℕ) → Promises a b nets → Fills b c [] → Fills c d nets → Awaits a net 32 → Awaits d net 32
awaits_unit a b c d net nets p f g h = awaits_beside c d net 32 nets g not_one (awaits_kept b c net 32 f (awaits_promises a b nets net p h))
  where
    not_one : Contains nets net → ⊥
    not_one c = let k = p.fresh net c in let l = (awaits_open a net 32 h).within in absurd (omega (arith, k, l))

pub unit_driven : (a b c d e : Draft) (nets others : List ℕ) → Promises a b nets → Fills b c [] → Fills c d nets → Fills d e others → Builds a e others
unit_driven a b c d e nets others p f g h = driven a b e nets others p (Fills-join b c e [] (nets ++ others) f (Fills-join c d e nets others g h))

pub not_other : (y z : ℕ) → y ≢ z → Contains (y ∷ []) z → ⊥
not_other y z far (zero, l, e) = far e
not_other y z far (suc k, l, e) = absurd (omega (arith, l))
