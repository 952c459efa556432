-- A load unit that stands in a draft.
use Rattle.std.proofs.Common.{◌≡◌, ℕ, zero, suc, ◌+◌, ◌<◌, ◌≤◌, ◌==◌, Bool, true, false, cond, List, [], ◌∷◌, ◌++◌, length, count_by, filter, Contains, Some, slice_get, option_map, refl, sym, ap, ◌∙◌, inl, inr, arith, ne_eqb, eq-eqb, append_assoc}
use Rattle.std.proofs.lemmas.Bool.{false≢true, cases_eq}
use Rattle.std.proofs.lemmas.List.{append-nil, length-append}
use Rattle.std.proofs.lemmas.List.Elements.{filter-append}
use Rattle.std.proofs.lemmas.List.Sums.{sum_by-append, sum_by-cons}
use Rattle.sp_netlist.specs.Cells.{PlainCell, load_unit}
use Rattle.sp_netlist.specs.Rules.{is_bank, is_unit, is_dram, dram_width}
use Rattle.sp_netlist.specs.Draft.{Draft, IsDraft, CanAdd, Keeps, driver_count, net_count}
use Rattle.sp_netlist.proofs.DraftNames.{draft_laws}
use Rattle.sp_gates.specs.Nets.{HasNet}
use Rattle.sp_gates.specs.Grows.{Grows}
use Rattle.sp_gates.proofs.Growing.{Keeps-join, HasNet-stays}
use Rattle.sp_taps.specs.Wires.{IsWire, Promises}
use Rattle.sp_taps.proofs.Promised.{at_back, one_net}
use Rattle.sp_channels.specs.declared.ports.LoadPort.{LoadPort}
use Rattle.sp_channels.specs.Ports.{load_wires, IsLoadRow, AreLoadWires}
use Rattle.sp_channels.specs.Units.{IsLoadUnit}
use Rattle.sp_channels.proofs.Promised.{promises, undriven}

-- what was promised stands under its number
pub promised_at : (first mid : List (ℕ × Bool)) (ports : List (ℕ × Bool)) (net k : ℕ) → mid ≡ first ++ ports → net ≡ length first + k → slice_get mid net ≡ slice_get ports k
promised_at first mid ports net k e n = ap (λ ps. slice_get ps net) e ∙ at_back first ports net k n

abbrev pub one_if : ℕ → ℕ → ℕ
one_if a net = cond (a == net) 1 0

pub is_one : (a net : ℕ) → a ≡ net → one_if a net ≡ 1
is_one a net e = rw (eq-eqb a net e) refl

pub is_none : (a net : ℕ) → (a ≡ net → ⊥) → one_if a net ≡ 0
is_none a net e = rw (ne_eqb a net e) refl

two_nets : (a b v w net : ℕ) → net_count ((a, v) ∷ (b, w) ∷ []) net ≡ one_if a net + one_if b net
two_nets a b v w net =
    let x = sum_by-cons (λ (p : ℕ × ℕ). cond (p.0 == net) 1 0) (a, v) ((b, w) ∷ []) in
    let y = one_net b w net in
    omega (arith, x, y)

module _ (old mid new : Draft) (h : IsDraft old) (same : mid.cells ≡ old.cells) (k : Keeps old mid) (l : Keeps mid new) (d : IsDraft new) where
  pub count_units : (x : PlainCell) → is_unit x ≡ true → new.cells ≡ mid.cells ++ x ∷ [] → (n : ℕ) → n ≡ count_by is_unit old.cells → count_by is_unit new.cells ≡ n + 1
  count_units x unit last n e =
      let a = ap (count_by is_unit) (last ∙ ap (λ cs. cs ++ x ∷ []) same) ∙ sum_by-append (λ c. cond (is_unit c) 1 0) old.cells (x ∷ []) in
      let b : count_by is_unit (x ∷ []) ≡ 1 = rw unit refl in
      omega (arith, a, b, e)

  module _ (channel dram width : ℕ) (port : LoadPort) (row : IsLoadRow (length old.promised) port) where
    abbrev load_cell : PlainCell
    load_cell = load_unit channel dram port.ready port.word port.request port.last port.address

    abbrev load_ports : List (ℕ × Bool)
    load_ports = (1, false) ∷ (1, false) ∷ (32, false) ∷ (1, true) ∷ (width, true) ∷ []

    free : (net : ℕ) → length old.promised ≤ net → driver_count mid.cells net ≡ 0
    free net m = ap (λ cs. driver_count cs net) same ∙ draft_laws.net old net h m

    pub can_load : mid.promised ≡ old.promised ++ load_ports → channel ≡ count_by is_unit old.cells → dram < count_by is_dram old.cells → dram_width old.cells dram ≡ width → CanAdd mid load_cell
    can_load e is small wide =
        let stays = k.drams dram small in
        record {
          right = (is ∙ ap (count_by is_unit) (sym same), stays.0);
          drives_promised = (promised_at old.promised mid.promised load_ports port.ready 3 e row.ready, (promised_at old.promised mid.promised load_ports port.word 4 e row.word ∙ ap (λ w. Some (w, true)) (sym (stays.1 ∙ wide)), tt));
          drives_new = (free port.ready (let r = row.ready in omega (arith, r)), (free port.word (let r = row.word in omega (arith, r)), tt));
          drives_apart = λ q. let a = row.ready in let b = row.word in absurd (omega (arith, a, b, q));
          reads_promised = (
            ap (option_map (λ n. n.0)) (promised_at old.promised mid.promised load_ports port.request 0 e (let r = row.request in omega (arith, r))),
            (ap (option_map (λ n. n.0)) (promised_at old.promised mid.promised load_ports port.last 1 e row.last), (ap (option_map (λ n. n.0)) (promised_at old.promised mid.promised load_ports port.address 2 e row.address), tt)),
          );
          operands_ready = λ x. absurd (false≢true x);
        }

    module _ (e : mid.promised ≡ old.promised ++ load_ports) (last : new.cells ≡ mid.cells ++ load_cell ∷ []) (nets : new.promised ≡ mid.promised)
        (drivers : (net : ℕ) → driver_count new.cells net ≡ driver_count mid.cells net + net_count ((port.ready, 1) ∷ (port.word, dram_width mid.cells dram) ∷ []) net) where
      load_grows : Grows old new
      load_grows = record {
        added = load_cell ∷ [];
        stands = last ∙ ap (λ cs. cs ++ load_cell ∷ []) same;
        keeps = Keeps-join old mid new k l;
        draft = λ o. d;
        no_done = refl;
        apart = λ bank below. refl;
      }

      load_hits : (net : ℕ) → driver_count new.cells net ≡ driver_count old.cells net + (one_if port.ready net + one_if port.word net)
      load_hits net = drivers net ∙ ap (λ n. driver_count mid.cells net + n) (two_nets port.ready port.word 1 (dram_width mid.cells dram) net) ∙ ap (λ cs. driver_count cs net + (one_if port.ready net + one_if port.word net)) same

      pub load_longer : length new.promised ≡ length old.promised + 5
      load_longer = ap length nets ∙ ap length e ∙ length-append old.promised load_ports

      in_row : (net : ℕ) → Contains (load_wires port) net → (length old.promised ≤ net) × (net < length old.promised + 3)
      in_row net (zero, b, q) = let r = row.request in (omega (arith, r, q), omega (arith, r, q))
      in_row net (suc zero, b, q) = let r = row.last in (omega (arith, r, q), omega (arith, r, q))
      in_row net (suc (suc zero), b, q) = let r = row.address in (omega (arith, r, q), omega (arith, r, q))
      in_row net (suc (suc (suc i)), b, q) = absurd (omega (arith, b))

      all_in : (j : ℕ) → j < 3 → Contains (load_wires port) (length old.promised + j)
      all_in zero m = (0, omega arith, row.request ∙ omega arith)
      all_in (suc zero) m = (1, omega arith, row.last)
      all_in (suc (suc zero)) m = (2, omega arith, row.address)
      all_in (suc (suc (suc j))) m = absurd (omega (arith, m))

      low : (net : ℕ) → net < length old.promised + 3 → one_if port.ready net + one_if port.word net ≡ 0
      low net m =
          let a = is_none port.ready net (λ q. let r = row.ready in absurd (omega (arith, r, q, m))) in
          let b = is_none port.word net (λ q. let r = row.word in absurd (omega (arith, r, q, m))) in
          omega (arith, a, b)

      high : (net : ℕ) → length old.promised + 3 ≤ net → net < length old.promised + 5 → 1 ≤ one_if port.ready net + one_if port.word net
      high net m n = elim (cases_eq port.ready net) [
        | inl q ↦ let a = is_one port.ready net q in omega (arith, a)
        | inr q ↦ let b = is_one port.word net (let r = row.ready in let w = row.word in omega (arith, r, w, m, n, q)) in omega (arith, b)
      ]

      pub load_promises : Promises old new (load_wires port)
      load_promises = promises old mid new load_ports (load_wires port) 3 5 (λ net. one_if port.ready net + one_if port.word net) h load_grows (omega arith) load_longer load_hits in_row all_in low high

      wire : (net w j : ℕ) → net ≡ length old.promised + j → j < 3 → slice_get load_ports j ≡ Some (w, false) → IsWire new net w
      wire net w j at small q = record {
        promised = ap (λ ps. slice_get ps net) nets ∙ promised_at old.promised mid.promised load_ports net j e at ∙ q;
        undriven = undriven old mid new load_ports (load_wires port) 3 5 (λ net. one_if port.ready net + one_if port.word net) h load_grows (omega arith) load_longer load_hits in_row all_in low high net (omega (arith, at)) (omega (arith, at, small));
      }

      pub load_wires_are : AreLoadWires new port
      load_wires_are = record {
        request = wire port.request 1 0 (let r = row.request in omega (arith, r)) (omega arith) refl;
        last = wire port.last 1 1 row.last (omega arith) refl;
        address = wire port.address 32 2 row.address (omega arith) refl;
      }

      kept : (net w j : ℕ) → net ≡ length old.promised + j → slice_get load_ports j ≡ Some (w, true) → HasNet new net w
      kept net w j at q =
          let p = ap (λ ps. slice_get ps net) nets ∙ promised_at old.promised mid.promised load_ports net j e at ∙ q in
          record { wide = ap (option_map (λ x. x.0)) p; ready = inl (ap (option_map (λ x. x.1)) p) }

      pub load_unit_is : IsLoadUnit new channel dram width port
      load_unit_is = record {
        ready = kept port.ready 1 3 row.ready refl;
        word = kept port.word width 4 row.word refl;
        before = old.cells;
        runs = λ g s rest run stands.
            let o = run.cells old.cells load_cell rest (stands ∙ ap (λ cs. cs ++ rest) (last ∙ ap (λ cs. cs ++ load_cell ∷ []) same) ∙ append_assoc old.cells (load_cell ∷ []) rest) in
            record { channel_runs = o.0; moves = o.1 };
      }

      pub load_units : channel ≡ count_by is_unit old.cells → count_by is_unit new.cells ≡ channel + 1
      load_units = count_units load_cell refl last channel

      pub load_banks : filter is_bank new.cells ≡ filter is_bank old.cells
      load_banks = ap (filter is_bank) (last ∙ ap (λ cs. cs ++ load_cell ∷ []) same) ∙ filter-append is_bank old.cells (load_cell ∷ []) ∙ append-nil (filter is_bank old.cells)

pub load_stays : (old new : Draft) (channel dram width : ℕ) (port : LoadPort) → Grows old new → IsLoadUnit old channel dram width port → IsLoadUnit new channel dram width port
load_stays old new channel dram width port g h = record {
  ready = HasNet-stays old new port.ready 1 g h.ready;
  word = HasNet-stays old new port.word width g h.word;
  before = h.before;
  runs = λ y s rest run stands. h.runs y s (g.added ++ rest) run (stands ∙ ap (λ cs. cs ++ rest) g.stands ∙ append_assoc old.cells g.added rest);
}
