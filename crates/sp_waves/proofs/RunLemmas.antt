-- What a run does in a cycle, and that all that a dump shows is driven, so that it is the same in every run.
use Rattle.std.proofs.Common.{◌≡◌, ℕ, zero, suc, ◌+◌, ⊎_elim, List, [], ◌∷◌, ◌++◌, map, flat_map, false, Contains, refl, sym, ap, ◌∙◌, subst, arith}
use Rattle.std.proofs.lemmas.List.{map-append}
use Rattle.std.proofs.lemmas.List.Elements.{All-contains, Contains-append_left, Contains-append_right, Contains-append_cases}
use Rattle.std.proofs.lemmas.List.Sorted.{Contains-permutation, IsPermutation-sym}
use Rattle.sp_netlist.specs.Cells.{PlainCell, in_cell, out_cell, done_cell, const_cell, op_cell, not_cell, shift_cell, cast_cell, mux_cell, reg_cell, bank_cell, read_tap, write_tap, dram_cell, load_unit, store_unit}
use Rattle.sp_netlist.specs.Rules.{dram_width, drives, reads, driven_nets, read_nets, IsNetlist}
use Rattle.sp_netlist.specs.Signals.{Setting, Signals, IsRun}
use Rattle.sp_netlist.specs.Cycle.{GoesOn, SharesNone, is_over, Ends, not_yet, SameRun}
use Rattle.sp_sim.specs.declared.end.SimEnd.{SimEnd}
use Rattle.sp_sim.specs.declared.end.SimEnd.TheVariants.{Done, Conflict, CyclesSpent}
use Rattle.sp_sim.specs.Progress.{Tells, IsEndIn}
use Rattle.sp_verilog.specs.Text.{AreNets, banks_of, drams_of, cell_nets}
use Rattle.sp_verilog.specs.declared.memories.BankSize.{BankSize}
use Rattle.sp_verilog.specs.declared.nets.NetLine.{NetLine}
use Rattle.sp_waves.specs.Signals.{PlainSignal, port_signals, net_signal, signals_of, nets_of}
use Rattle.sp_waves.specs.Dump.{WentOn, row}

-- a run that ends in a cycle doesn't go on there
pub stops : (g : Setting) (cycle : ℕ) (end : SimEnd) → Tells g cycle end → IsEndIn cycle end → (s : Signals) → IsRun g s → GoesOn g s cycle → ⊥
stops g cycle (Done cycles) told here s r on =
    let over = (told.2.every_run s r).3 in
    let none = subst (λ n. is_over g.cells (s.net n) ≡ false) (sym here) on.not_over in
    cc
stops g cycle (Conflict at bank port) told here s r on =
    let shared = (told.every_run s r).2.shared in
    let most = subst (λ n. SharesNone g.cells (s.net n)) (sym here) on.shares_none port bank in
    omega (arith, shared, most)
stops g cycle CyclesSpent told here s r on = here

pub went_on : (g : Setting) (cycle : ℕ) → Ends g cycle not_yet → WentOn g (cycle + 1)
went_on g cycle ends = λ s r t within. ends.every_run s r t (omega (arith, within))

-- ---- all nets that are shown are driven

module _ (driven : List (ℕ × ℕ)) where
  abbrev pub IsDriven : ℕ → Type 0
  IsDriven n = (w : ℕ) × Contains driven (n, w)

  pub AreDriven : List ℕ → Type 0
  AreDriven [] = Unit {0}
  AreDriven (n ∷ ns) = IsDriven n × AreDriven ns

  joined : (ns ms : List ℕ) → AreDriven ns → AreDriven ms → AreDriven (ns ++ ms)
  unfolding AreDriven
  joined [] ms a b = b
  joined (n ∷ ns) ms a b = (a.0, joined ns ms a.1 b)

  module _ (cells : List PlainCell) where
    abbrev Named : (PlainCell → List (ℕ × ℕ)) → PlainCell → Type 0
    Named of cell = (n w : ℕ) → Contains (of cell) (n, w) → Contains driven (n, w)

    port_driven : (cell : PlainCell) → Named (drives cells) cell → Named (reads cells) cell → AreDriven (nets_of (port_signals cell))
    unfolding AreDriven
    port_driven (in_cell name net ty) d r = ((_, d net _ (0, omega arith, refl)), tt)
    port_driven (out_cell name net ty) d r = ((_, r net _ (0, omega arith, refl)), tt)
    port_driven (done_cell net) d r = ((_, r net _ (0, omega arith, refl)), tt)
    port_driven (load_unit channel dram ready net request last addr) d r =
        ((_, d ready _ (0, omega arith, refl)), ((_, r request _ (0, omega arith, refl)), ((_, r last _ (1, omega arith, refl)), tt)))
    port_driven (store_unit channel dram ready request last addr word) d r =
        ((_, d ready _ (0, omega arith, refl)), ((_, r request _ (0, omega arith, refl)), ((_, r last _ (1, omega arith, refl)), tt)))
    port_driven (const_cell net width word) d r = tt
    port_driven (op_cell net ty op a b) d r = tt
    port_driven (not_cell net ty a) d r = tt
    port_driven (shift_cell net ty side a places) d r = tt
    port_driven (cast_cell net from to a) d r = tt
    port_driven (mux_cell net width choice a b) d r = tt
    port_driven (reg_cell net width first next enable) d r = tt
    port_driven (bank_cell bank width len) d r = tt
    port_driven (read_tap net bank enable addr) d r = tt
    port_driven (write_tap bank enable addr word) d r = tt
    port_driven (dram_cell dram name ty dims) d r = tt

    abbrev AllNamed : (PlainCell → List (ℕ × ℕ)) → List PlainCell → Type 0
    AllNamed of xs = (n w : ℕ) → Contains (flat_map of xs) (n, w) → Contains driven (n, w)

    ports_driven : (xs : List PlainCell) → AllNamed (drives cells) xs → AllNamed (reads cells) xs → AreDriven (nets_of (flat_map port_signals xs))
    unfolding AreDriven
    ports_driven [] d r = tt
    ports_driven (x ∷ xs) d r =
        subst AreDriven (sym (map-append (λ (s : PlainSignal). s.net) (port_signals x) (flat_map port_signals xs)))
        (joined (nets_of (port_signals x)) (nets_of (flat_map port_signals xs))
        (port_driven x (λ n w c. d n w (Contains-append_left (drives cells x) (flat_map (drives cells) xs) (n, w) c)) (λ n w c. r n w (Contains-append_left (reads cells x) (flat_map (reads cells) xs) (n, w) c)))
        (ports_driven xs (λ n w c. d n w (Contains-append_right (drives cells x) (flat_map (drives cells) xs) (n, w) c)) (λ n w c. r n w (Contains-append_right (reads cells x) (flat_map (reads cells) xs) (n, w) c))))

    module _ (banks : List BankSize) (drams : List ℕ) where
      only : (a n : NetLine) → Contains (a ∷ []) n → a ≡ n
      only a n (zero, within, e) = e
      only a n (suc k, within, e) = absurd (omega arith)

      -- a line of a cell is of a net that the cell drives
      one_line : (net : ℕ) (a n : NetLine) (w : ℕ) → a.net ≡ net → Contains (a ∷ []) n → (v : ℕ) × Contains {X = ℕ × ℕ} ((net, w) ∷ []) (n.net, v)
      one_line net a n w is c =
          let here : Contains {X = ℕ × ℕ} ((net, w) ∷ []) (n.net, w) = (0, omega arith, ap (λ m. (m, w)) (sym is ∙ ap (λ (l : NetLine). l.net) (only a n c))) in
          (w, here)

      no_line : {X : Type 0} (n : NetLine) → Contains [] n → X
      no_line n c = absurd (omega (arith, c.1))

      line_driven : (cell : PlainCell) (n : NetLine) → Contains (cell_nets banks drams cell) n → (w : ℕ) × Contains (drives cells cell) (n.net, w)
      line_driven (in_cell name net ty) n c = one_line net _ n _ refl c
      line_driven (const_cell net width word) n c = one_line net _ n _ refl c
      line_driven (op_cell net ty op a b) n c = one_line net _ n _ refl c
      line_driven (not_cell net ty a) n c = one_line net _ n _ refl c
      line_driven (shift_cell net ty side a places) n c = one_line net _ n _ refl c
      line_driven (cast_cell net from to a) n c = one_line net _ n _ refl c
      line_driven (mux_cell net width choice a b) n c = one_line net _ n _ refl c
      line_driven (reg_cell net width first next enable) n c = one_line net _ n _ refl c
      line_driven (read_tap net bank enable addr) n c = one_line net _ n _ refl c
      line_driven (store_unit channel dram ready request last addr word) n c = one_line ready _ n _ refl c
      line_driven (load_unit channel dram ready net request last addr) n (zero, within, e) = (1, (0, omega arith, ap (λ (l : NetLine). (l.net, 1)) e))
      line_driven (load_unit channel dram ready net request last addr) n (suc zero, within, e) = (_, (1, omega arith, ap (λ (l : NetLine). (l.net, dram_width cells dram)) e))
      line_driven (load_unit channel dram ready net request last addr) n (suc (suc k), within, e) = absurd (omega arith)
      line_driven (out_cell name net ty) n c = no_line n c
      line_driven (done_cell net) n c = no_line n c
      line_driven (bank_cell bank width len) n c = no_line n c
      line_driven (write_tap bank enable addr word) n c = no_line n c
      line_driven (dram_cell dram name ty dims) n c = no_line n c

      lines_driven : (xs : List PlainCell) (n : NetLine) → Contains (flat_map (cell_nets banks drams) xs) n → (w : ℕ) × Contains (flat_map (drives cells) xs) (n.net, w)
      lines_driven [] n c = no_line n c
      lines_driven (x ∷ xs) n c =
          ⊎_elim (λ here. let d = line_driven x n here in (d.0, Contains-append_left (drives cells x) (flat_map (drives cells) xs) (n.net, d.0) d.1))
          (λ later. let d = lines_driven xs n later in (d.0, Contains-append_right (drives cells x) (flat_map (drives cells) xs) (n.net, d.0) d.1))
          (Contains-append_cases (cell_nets banks drams x) (flat_map (cell_nets banks drams) xs) n c)

    nets_driven : (nets : List NetLine) → ((n : NetLine) → Contains nets n → IsDriven n.net) → AreDriven (nets_of (map net_signal nets))
    unfolding AreDriven
    nets_driven [] h = tt
    nets_driven (n ∷ nets) h = (h n (0, omega arith, refl), nets_driven nets (λ m c. h m (Contains-append_right (n ∷ []) nets m c)))

pub all_driven : (cells : List PlainCell) (nets : List NetLine) → IsNetlist cells → AreNets cells nets → AreDriven (driven_nets cells) (nets_of (signals_of cells nets))
all_driven cells nets h are =
    subst (AreDriven (driven_nets cells)) (sym (map-append (λ (s : PlainSignal). s.net) (flat_map port_signals cells) (map net_signal nets)))
    (joined (driven_nets cells) (nets_of (flat_map port_signals cells)) (nets_of (map net_signal nets))
    (ports_driven (driven_nets cells) cells cells (λ n w c. c) (λ n w c. All-contains (Contains (driven_nets cells)) (read_nets cells) (n, w) h.read_driven c))
    (nets_driven (driven_nets cells) cells nets (λ n c. lines_driven (driven_nets cells) cells (banks_of cells) (drams_of cells) cells n
    (Contains-permutation nets (flat_map (cell_nets (banks_of cells) (drams_of cells)) cells) n (IsPermutation-sym (flat_map (cell_nets (banks_of cells) (drams_of cells)) cells) nets are.all_nets) c))))

-- two runs show the same
same_words : (cells : List PlainCell) (s u : Signals) → SameRun cells s u → (t : ℕ) (ns : List ℕ) → AreDriven (driven_nets cells) ns → map (s.net t) ns ≡ map (u.net t) ns
unfolding AreDriven
same_words cells s u same t [] d = refl
same_words cells s u same t (n ∷ ns) d = rw (same.nets t n d.0.0 d.0.1, same_words cells s u same t ns d.1)

pub same_rows : (cells : List PlainCell) (signals : List PlainSignal) (s u : Signals) → SameRun cells s u → AreDriven (driven_nets cells) (nets_of signals) → row s signals ≡ row u signals
same_rows cells signals s u same d = λ i t. same_words cells s u same t (nets_of signals) d i
