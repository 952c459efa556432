-- A store unit that stands in a draft.
use Rattle.std.proofs.Common.{◌≡◌, ℕ, zero, suc, ◌+◌, ◌<◌, ◌≤◌, Bool, true, false, List, [], ◌∷◌, ◌++◌, length, count_by, filter, Contains, Some, slice_get, option_map, refl, sym, ap, ◌∙◌, inl, arith, append_assoc}
use Rattle.std.proofs.lemmas.Bool.{false≢true}
use Rattle.std.proofs.lemmas.List.{append-nil, length-append}
use Rattle.std.proofs.lemmas.List.Elements.{filter-append}
use Rattle.sp_netlist.specs.Cells.{PlainCell, store_unit}
use Rattle.sp_netlist.specs.Rules.{is_bank, is_unit, is_dram, dram_width}
use Rattle.sp_netlist.specs.Draft.{Draft, IsDraft, CanAdd, Keeps, driver_count, net_count}
use Rattle.sp_netlist.proofs.DraftNames.{draft_laws}
use Rattle.sp_gates.specs.Nets.{HasNet}
use Rattle.sp_gates.specs.Grows.{Grows}
use Rattle.sp_gates.proofs.Growing.{Keeps-join, HasNet-stays}
use Rattle.sp_taps.specs.Wires.{IsWire, Promises}
use Rattle.sp_taps.proofs.Promised.{one_net}
use Rattle.sp_channels.specs.declared.ports.StorePort.{StorePort}
use Rattle.sp_channels.specs.Ports.{store_wires, IsStoreRow, AreStoreWires}
use Rattle.sp_channels.specs.Units.{IsStoreUnit}
use Rattle.sp_channels.proofs.Promised.{promises, undriven}
use Rattle.sp_channels.proofs.Standing.{promised_at, one_if, is_one, is_none, count_units}

module _ (old mid new : Draft) (h : IsDraft old) (same : mid.cells ≡ old.cells) (k : Keeps old mid) (l : Keeps mid new) (d : IsDraft new) where
  module _ (channel dram width : ℕ) (port : StorePort) (row : IsStoreRow (length old.promised) port) where
    abbrev store_cell : PlainCell
    store_cell = store_unit channel dram port.ready port.request port.last port.address port.word

    abbrev store_ports : List (ℕ × Bool)
    store_ports = (1, false) ∷ (1, false) ∷ (32, false) ∷ (width, false) ∷ (1, true) ∷ []

    free : (net : ℕ) → length old.promised ≤ net → driver_count mid.cells net ≡ 0
    free net m = ap (λ cs. driver_count cs net) same ∙ draft_laws.net old net h m

    pub can_store : mid.promised ≡ old.promised ++ store_ports → channel ≡ count_by is_unit old.cells → dram < count_by is_dram old.cells → dram_width old.cells dram ≡ width → CanAdd mid store_cell
    can_store e is small wide =
        let stays = k.drams dram small in
        record {
          right = (is ∙ ap (count_by is_unit) (sym same), stays.0);
          drives_promised = (promised_at old.promised mid.promised store_ports port.ready 4 e row.ready, tt);
          drives_new = (free port.ready (let r = row.ready in omega (arith, r)), tt);
          drives_apart = tt;
          reads_promised = (
            ap (option_map (λ n. n.0)) (promised_at old.promised mid.promised store_ports port.request 0 e (let r = row.request in omega (arith, r))),
            (ap (option_map (λ n. n.0)) (promised_at old.promised mid.promised store_ports port.last 1 e row.last), (ap (option_map (λ n. n.0)) (promised_at old.promised mid.promised store_ports port.address 2 e row.address), (ap (option_map (λ n. n.0)) (promised_at old.promised mid.promised store_ports port.word 3 e row.word) ∙ ap Some (sym (stays.1 ∙ wide)), tt))),
          );
          operands_ready = λ x. absurd (false≢true x);
        }

    module _ (e : mid.promised ≡ old.promised ++ store_ports) (last : new.cells ≡ mid.cells ++ store_cell ∷ []) (nets : new.promised ≡ mid.promised)
        (drivers : (net : ℕ) → driver_count new.cells net ≡ driver_count mid.cells net + net_count ((port.ready, 1) ∷ []) net) where
      store_grows : Grows old new
      store_grows = record {
        added = store_cell ∷ [];
        stands = last ∙ ap (λ cs. cs ++ store_cell ∷ []) same;
        keeps = Keeps-join old mid new k l;
        draft = λ o. d;
        no_done = refl;
        apart = λ bank below. refl;
      }

      store_hits : (net : ℕ) → driver_count new.cells net ≡ driver_count old.cells net + one_if port.ready net
      store_hits net = drivers net ∙ ap (λ n. driver_count mid.cells net + n) (one_net port.ready 1 net) ∙ ap (λ cs. driver_count cs net + one_if port.ready net) same

      pub store_longer : length new.promised ≡ length old.promised + 5
      store_longer = ap length nets ∙ ap length e ∙ length-append old.promised store_ports

      in_row : (net : ℕ) → Contains (store_wires port) net → (length old.promised ≤ net) × (net < length old.promised + 4)
      in_row net (zero, b, q) = let r = row.request in (omega (arith, r, q), omega (arith, r, q))
      in_row net (suc zero, b, q) = let r = row.last in (omega (arith, r, q), omega (arith, r, q))
      in_row net (suc (suc zero), b, q) = let r = row.address in (omega (arith, r, q), omega (arith, r, q))
      in_row net (suc (suc (suc zero)), b, q) = let r = row.word in (omega (arith, r, q), omega (arith, r, q))
      in_row net (suc (suc (suc (suc i))), b, q) = absurd (omega (arith, b))

      all_in : (j : ℕ) → j < 4 → Contains (store_wires port) (length old.promised + j)
      all_in zero m = (0, omega arith, row.request ∙ omega arith)
      all_in (suc zero) m = (1, omega arith, row.last)
      all_in (suc (suc zero)) m = (2, omega arith, row.address)
      all_in (suc (suc (suc zero))) m = (3, omega arith, row.word)
      all_in (suc (suc (suc (suc j)))) m = absurd (omega (arith, m))

      low : (net : ℕ) → net < length old.promised + 4 → one_if port.ready net ≡ 0
      low net m = is_none port.ready net (λ q. let r = row.ready in absurd (omega (arith, r, q, m)))

      high : (net : ℕ) → length old.promised + 4 ≤ net → net < length old.promised + 5 → 1 ≤ one_if port.ready net
      high net m n = let a = is_one port.ready net (let r = row.ready in omega (arith, r, m, n)) in omega (arith, a)

      pub store_promises : Promises old new (store_wires port)
      store_promises = promises old mid new store_ports (store_wires port) 4 5 (λ net. one_if port.ready net) h store_grows (omega arith) store_longer store_hits in_row all_in low high

      wire : (net w j : ℕ) → net ≡ length old.promised + j → j < 4 → slice_get store_ports j ≡ Some (w, false) → IsWire new net w
      wire net w j at small q = record {
        promised = ap (λ ps. slice_get ps net) nets ∙ promised_at old.promised mid.promised store_ports net j e at ∙ q;
        undriven = undriven old mid new store_ports (store_wires port) 4 5 (λ net. one_if port.ready net) h store_grows (omega arith) store_longer store_hits in_row all_in low high net (omega (arith, at)) (omega (arith, at, small));
      }

      pub store_wires_are : AreStoreWires new width port
      store_wires_are = record {
        request = wire port.request 1 0 (let r = row.request in omega (arith, r)) (omega arith) refl;
        last = wire port.last 1 1 row.last (omega arith) refl;
        address = wire port.address 32 2 row.address (omega arith) refl;
        word = wire port.word width 3 row.word (omega arith) refl;
      }

      kept : (net w j : ℕ) → net ≡ length old.promised + j → slice_get store_ports j ≡ Some (w, true) → HasNet new net w
      kept net w j at q =
          let p = ap (λ ps. slice_get ps net) nets ∙ promised_at old.promised mid.promised store_ports net j e at ∙ q in
          record { wide = ap (option_map (λ x. x.0)) p; ready = inl (ap (option_map (λ x. x.1)) p) }

      pub store_unit_is : IsStoreUnit new channel dram port
      store_unit_is = record {
        ready = kept port.ready 1 4 row.ready refl;
        before = old.cells;
        after = [];
        stands = last ∙ ap (λ cs. cs ++ store_cell ∷ []) same;
        runs = λ g s rest run stands. run.cells old.cells store_cell rest (stands ∙ ap (λ cs. cs ++ rest) (last ∙ ap (λ cs. cs ++ store_cell ∷ []) same) ∙ append_assoc old.cells (store_cell ∷ []) rest);
      }

      pub store_units : channel ≡ count_by is_unit old.cells → count_by is_unit new.cells ≡ channel + 1
      store_units = count_units old mid new h same k l d store_cell refl last channel

      pub store_banks : filter is_bank new.cells ≡ filter is_bank old.cells
      store_banks = ap (filter is_bank) (last ∙ ap (λ cs. cs ++ store_cell ∷ []) same) ∙ filter-append is_bank old.cells (store_cell ∷ []) ∙ append-nil (filter is_bank old.cells)

pub store_stays : (old new : Draft) (channel dram : ℕ) (port : StorePort) → Grows old new → IsStoreUnit old channel dram port → IsStoreUnit new channel dram port
store_stays old new channel dram port g h = record {
  ready = HasNet-stays old new port.ready 1 g h.ready;
  before = h.before;
  after = h.after ++ g.added;
  stands = g.stands ∙ ap (λ cs. cs ++ g.added) h.stands ∙ append_assoc h.before (store_unit channel dram port.ready port.request port.last port.address port.word ∷ h.after) g.added;
  runs = λ y s rest run stands. h.runs y s (g.added ++ rest) run (stands ∙ ap (λ cs. cs ++ rest) g.stands ∙ append_assoc old.cells g.added rest);
}
