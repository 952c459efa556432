-- What a frame says of a netlist's ports and of its runs.
use Rattle.std.specs.Prelude.{◌≡◌, ◌≢◌, ℕ, suc, ◌<◌, ◌≤◌, ◌==◌, true, List, [], ◌∷◌, ◌++◌, length, map, filter_map, filter, count_by, slice_index, slice_index_or}
use Rattle.std.specs.List.{list_all, range_with_len}
use Rattle.sp_words.specs.Interface.{word_count}
use Rattle.sp_words.specs.Ports.{PlainPort}
use Rattle.sp_words.specs.Types.{width_of}
use Rattle.sp_netlist.specs.Cells.{PlainCell, done_cell, dram_cell}
use Rattle.sp_netlist.specs.Rules.{IsNetlist, is_bank, is_done, is_dram, out_name}
use Rattle.sp_netlist.specs.Ports.{ports_of}
use Rattle.sp_netlist.specs.Parts.{NoCell}
use Rattle.sp_netlist.specs.Signals.{Setting, Signals, IsRun}
use Rattle.sp_netlist.specs.declared.cell.Port.{Port}
use Rattle.sp_netlist.specs.Cycle.{is_enabled_tap, SharesNone, is_over, out_words, dram_lists, done_in, EndsAs, Ends}
use Rattle.sp_netlist.specs.Draft.{Draft}
use Rattle.sp_gates.specs.Grows.{is_no_gate, AddsGates, Grows}
use Rattle.sp_gates.specs.Nets.{HasNet}
use Rattle.sp_gates.specs.Runs.{RunsOn}
use Rattle.sp_taps.specs.Stores.{is_no_bank_part, AddsBanks}
use Rattle.sp_core.specs.MemoryRules.{names_of, are_port_names, are_ports_of, is_dram_right}
use Rattle.sp_core.specs.PlainCore.{PlainMem}
use Rattle.sp_frames.specs.Framed.{in_cells, front_cells, out_cells, is_store, AddsUnits, AddsInside, IsFramed}
use Rattle.sp_frames.specs.Ports.{AreNamed, HaveNoDims, HaveSizes, HaveNets}

-- the words that DRAMs hold, from a number on: of each as many as it has
abbrev pub held_lists : (held : ℕ → ℕ → ℕ) → (first : ℕ) → List PlainPort → List (List ℕ)
held_lists held first [] = []
held_lists held first (port ∷ ports) = map (held first) (range_with_len 0 (word_count port.dims)) ∷ held_lists held (suc first) ports

-- the cell of a DRAM of this number and port stands
pub record HasDramCell (cells : List PlainCell) (number : ℕ) (port : PlainPort) : Type 0 where
  pub before : List PlainCell
  pub after : List PlainCell
  pub stands : cells ≡ before ++ dram_cell number port.name port.ty port.dims ∷ after

-- what follows from the rules of a core, and from parts that are added later
pub record PortLaws : Type 0 where
  pub named : (ports : List PlainPort) → are_port_names (names_of ports) ≡ true → AreNamed ports
  pub no_dims : (ports : List PlainPort) (mems : List PlainMem) → are_ports_of ports mems ≡ true → HaveNoDims ports
  pub sizes : (ports : List PlainPort) → list_all is_dram_right ports ≡ true → HaveSizes ports
  pub nets_stay : (old new : Draft) (ports : List PlainPort) (nets : List ℕ) → Grows old new → HaveNets old ports nets → HaveNets new ports nets
  pub net_for_each : (d : Draft) (ports : List PlainPort) (nets : List ℕ) → HaveNets d ports nets → length nets ≡ length ports
  pub has_nets : (d : Draft) (ports : List PlainPort) (nets : List ℕ) → length nets ≡ length ports
      → ((i : ℕ) (other : PlainPort) → i < length ports → HasNet d (slice_index nets i) (width_of (slice_index_or ports i other).ty)) → HaveNets d ports nets
  pub each_net : (d : Draft) (ports : List PlainPort) (nets : List ℕ) → HaveNets d ports nets
      → (i : ℕ) (other : PlainPort) → i < length ports → HasNet d (slice_index nets i) (width_of (slice_index_or ports i other).ty)
  -- arguments alone are no DRAMs, and with DRAMs they are no banks
  pub no_drams : (begun : Draft) (ports : List PlainPort) (nets : List ℕ) → begun.cells ≡ in_cells ports nets → NoCell is_dram begun.cells
  pub no_banks : (begun : Draft) (ports : List PlainPort) (nets : List ℕ) (drams : List PlainPort) → begun.cells ≡ front_cells ports nets drams → (count_by is_bank begun.cells ≡ 0) × (filter is_bank begun.cells ≡ [])
  -- gates stand inside, and so do banks with their taps and units, one behind the other
  pub gates_inside : (old new : Draft) → AddsGates old new → AddsInside old new
  pub banks_inside : (old new : Draft) → AddsBanks old new → AddsInside old new
  pub units_inside : (old new : Draft) → AddsUnits old new → AddsInside old new
  pub inside_join : (old mid new : Draft) → AddsInside old mid → AddsInside mid new → AddsInside old new
  -- no unit stores among arguments and DRAMs, among gates, among banks with their taps, or among outputs and the end
  pub front_stores_none : (ports : List PlainPort) (nets : List ℕ) (drams : List PlainPort) → NoCell is_store (front_cells ports nets drams)
  pub gates_store_none : (cells : List PlainCell) → NoCell is_no_gate cells → NoCell is_store cells
  pub banks_store_none : (cells : List PlainCell) → NoCell is_no_bank_part cells → NoCell is_store cells
  pub ends_store_none : (outs : List PlainPort) (out_nets : List ℕ) (done : ℕ) → NoCell is_store (out_cells outs out_nets ++ done_cell done ∷ [])
  -- behind arguments, DRAMs and these there is no output and no end
  pub no_output : (begun d : Draft) (ports : List PlainPort) (nets : List ℕ) (drams : List PlainPort) → begun.cells ≡ front_cells ports nets drams → AddsInside begun d → filter_map out_name d.cells ≡ []
  pub no_end : (begun d : Draft) (ports : List PlainPort) (nets : List ℕ) (drams : List PlainPort) → begun.cells ≡ front_cells ports nets drams → AddsInside begun d → NoCell is_done d.cells
  -- where these stand behind them, the cells stand in a frame
  pub framed : (begun d : Draft) (args : List PlainPort) (arg_nets : List ℕ) (drams : List PlainPort) (outs : List PlainPort) (out_nets : List ℕ) (done : ℕ) (cells : List PlainCell) → begun.cells ≡ front_cells args arg_nets drams
      → (a : AddsInside begun d) → cells ≡ d.cells ++ out_cells outs out_nets ++ done_cell done ∷ [] → length arg_nets ≡ length args → length out_nets ≡ length outs → IsFramed cells args arg_nets drams a.added outs out_nets done
  -- a run of such a netlist runs on what stands before its outputs
  pub runs_on : (d : Draft) (outs : List PlainPort) (out_nets : List ℕ) (done : ℕ) (g : Setting) (s : Signals) → g.cells ≡ d.cells ++ out_cells outs out_nets ++ done_cell done ∷ [] → IsRun g s → (r : RunsOn s d.cells) × (r.setting ≡ g)
  -- in each run the net of an argument has its word
  pub words : (ports : List PlainPort) (nets : List ℕ) (rest : List PlainCell) (g : Setting) (s : Signals) → length nets ≡ length ports → IsRun g s → g.cells ≡ in_cells ports nets ++ rest
      → (t i : ℕ) → i < length nets → s.net t (slice_index nets i) ≡ slice_index g.args i

-- what the cells are that stand in the frame, and what they are at the words of a cycle
pub record FrameLaws (cells : List PlainCell) (args : List PlainPort) (arg_nets : List ℕ) (drams : List PlainPort) (outs : List PlainPort) (out_nets : List ℕ) (done : ℕ) : Type 0 where
  pub ports : HaveNoDims args → HaveNoDims outs → ports_of cells ≡ record { args = args; outs = outs; drams = drams }
  pub over : (words : ℕ → ℕ) → is_over cells words ≡ (words done == 1)
  pub outs_read : (words : ℕ → ℕ) → out_words cells words ≡ map words out_nets
  -- the lists of DRAMs are the words that they hold, and each DRAM has its cell
  pub drams_read : (held : ℕ → ℕ → ℕ) → dram_lists cells held ≡ held_lists held 0 drams
  pub drams_stand : (r : ℕ) (other : PlainPort) → r < length drams → HasDramCell cells r (slice_index_or drams r other)
  pub args_stand : (g : Setting) (s : Signals) → g.cells ≡ cells → IsRun g s → (t i : ℕ) → i < length arg_nets → s.net t (slice_index arg_nets i) ≡ slice_index g.args i

abbrev pub FramesRight : Type 0
FramesRight =
    (cells : List PlainCell) (args : List PlainPort) (arg_nets : List ℕ) (drams : List PlainPort) (inside : List PlainCell) (outs : List PlainPort) (out_nets : List ℕ) (done : ℕ)
    → IsFramed cells args arg_nets drams inside outs out_nets done → FrameLaws cells args arg_nets drams outs out_nets done

-- in this run the net is 1 in the cycle, and in no cycle before
pub record IsFirst (s : Signals) (done cycle : ℕ) : Type 0 where
  pub is_one : s.net cycle done ≡ 1
  pub not_before : (t : ℕ) → t < cycle → s.net t done ≢ 1

-- no two taps meet up to the cycle
abbrev pub SharesNoneUpTo : Setting → Signals → (cycle : ℕ) → Type 0
SharesNoneUpTo g s cycle = (t : ℕ) → t ≤ cycle → SharesNone g.cells (s.net t)

-- Behind the banks that stand there are gates, outputs and the end. Where no two taps of any of these banks meet, none of all taps do.
abbrev pub TapsShareNone : Type 0
TapsShareNone =
    (stored d : Draft) (outs : List PlainPort) (out_nets : List ℕ) (done : ℕ) (cells : List PlainCell) (words : ℕ → ℕ) → AddsGates stored d → cells ≡ d.cells ++ out_cells outs out_nets ++ done_cell done ∷ [] → IsNetlist cells
    → ((bank : ℕ) (port : Port) → bank < count_by is_bank stored.cells → count_by (is_enabled_tap words port bank) cells ≤ 1) → SharesNone cells words

-- such a run ends in that cycle, with the words that the outputs' nets and the DRAMs have then; and so does the netlist
pub record FrameEnds (g : Setting) (s : Signals) (out_nets : List ℕ) (cycle last : ℕ) : Type 0 where
  pub of_run : EndsAs g s last (done_in cycle (map (s.net cycle) out_nets) (dram_lists g.cells (s.dram cycle)))
  pub of_netlist : IsNetlist g.cells → Ends g last (done_in cycle (map (s.net cycle) out_nets) (dram_lists g.cells (s.dram cycle)))

abbrev pub FramesEnd : Type 0
FramesEnd =
    (g : Setting) (s : Signals) (args : List PlainPort) (arg_nets : List ℕ) (drams : List PlainPort) (inside : List PlainCell) (outs : List PlainPort) (out_nets : List ℕ) (done cycle last : ℕ)
    → IsFramed g.cells args arg_nets drams inside outs out_nets done → IsRun g s → SharesNoneUpTo g s cycle → IsFirst s done cycle → cycle ≤ last → FrameEnds g s out_nets cycle last
