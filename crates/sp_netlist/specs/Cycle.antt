-- How a run ends. A cycle in which two enabled taps stand on one port of one bank is a conflict; else, where
-- the done net is 1, the run is done; else it goes on.
use Rattle.std.specs.Prelude.{◌≡◌, ℕ, ◌<◌, ◌≤◌, List, [], ◌∷◌, Bool, false, ◌&&◌, ◌==◌, IsTrue, map, count_by, Contains}
use Rattle.std.specs.List.{range_with_len, list_any}
use Rattle.sp_netlist.specs.declared.cell.Port.{Port}
use Rattle.sp_netlist.specs.declared.cell.Port.TheVariants.{Read, Write}
use Rattle.sp_netlist.specs.Cells.{PlainCell, out_cell, done_cell, read_tap, write_tap, dram_cell}
use Rattle.sp_words.specs.Interface.{word_count}
use Rattle.sp_netlist.specs.Rules.{is_bank, is_dram, is_unit, driven_nets}
use Rattle.sp_netlist.specs.Signals.{Setting, Signals, IsRun}

-- whether a cell is a tap on this port of this bank that is enabled, at the nets' words
abbrev pub is_enabled_tap : (ℕ → ℕ) → Port → ℕ → PlainCell → Bool
is_enabled_tap words Read bank (read_tap net of enable addr) = (of == bank) && (words enable == 1)
is_enabled_tap words Write bank (write_tap of enable addr word) = (of == bank) && (words enable == 1)
is_enabled_tap words port bank cell = false

-- two enabled taps stand on this port of this bank
abbrev pub Shares : List PlainCell → (ℕ → ℕ) → Port → ℕ → Type 0
Shares cells words port bank = 1 < count_by (is_enabled_tap words port bank) cells

-- no port of any bank has two
abbrev pub SharesNone : List PlainCell → (ℕ → ℕ) → Type 0
SharesNone cells words = (port : Port) (bank : ℕ) → count_by (is_enabled_tap words port bank) cells ≤ 1

-- that bank and port is the conflict which is reported: the least bank, read before write
pub record IsConflict (cells : List PlainCell) (words : ℕ → ℕ) (bank : ℕ) (port : Port) : Type 0 where
  pub shared : Shares cells words port bank
  pub least : (p : Port) (b : ℕ) → Shares cells words p b → bank ≤ b
  pub read_first : Shares cells words Read bank → port ≡ Read

-- the done net is 1
abbrev pub cell_is_done : (ℕ → ℕ) → PlainCell → Bool
cell_is_done words (done_cell net) = words net == 1
cell_is_done words cell = false

abbrev pub is_over : List PlainCell → (ℕ → ℕ) → Bool
is_over cells words = list_any (cell_is_done words) cells

-- the words of the outs in order
abbrev pub out_words : List PlainCell → (ℕ → ℕ) → List ℕ
out_words [] words = []
out_words (out_cell name net ty ∷ cells) words = words net ∷ out_words cells words
out_words (cell ∷ cells) words = out_words cells words

-- the words of the DRAMs in order
abbrev pub dram_lists : List PlainCell → (ℕ → ℕ → ℕ) → List (List ℕ)
dram_lists [] drams = []
dram_lists (dram_cell dram name ty dims ∷ cells) drams = map (drams dram) (range_with_len 0 (word_count dims)) ∷ dram_lists cells drams
dram_lists (cell ∷ cells) drams = dram_lists cells drams

-- how a run ends: done in a cycle, with the words of the outs and of the DRAMs; at a conflict in a cycle; or
-- not within the cycles that were asked for
pub data Ending : Type 0 where
  done_in : (cycle : ℕ) (outs : List ℕ) (drams : List (List ℕ)) → Ending
  conflict_in : (cycle bank : ℕ) (port : Port) → Ending
  not_yet : Ending

-- in this cycle a run neither is done nor has a conflict
pub record GoesOn (g : Setting) (s : Signals) (t : ℕ) : Type 0 where
  pub shares_none : SharesNone g.cells (s.net t)
  pub not_over : is_over g.cells (s.net t) ≡ false

-- a run ends so within the cycles 0 to last
abbrev pub EndsAs : Setting → Signals → ℕ → Ending → Type 0
EndsAs g s last (done_in cycle outs drams) =
    (cycle ≤ last) × ((t : ℕ) → t < cycle → GoesOn g s t) × SharesNone g.cells (s.net cycle)
    × IsTrue (is_over g.cells (s.net cycle)) × (outs ≡ out_words g.cells (s.net cycle)) × (drams ≡ dram_lists g.cells (s.dram cycle))
EndsAs g s last (conflict_in cycle bank port) =
    (cycle ≤ last) × ((t : ℕ) → t < cycle → GoesOn g s t) × IsConflict g.cells (s.net cycle) bank port
EndsAs g s last not_yet = (t : ℕ) → t ≤ last → GoesOn g s t

-- The netlist, so set up, ends so within the cycles 0 to last: it has a run, and every run of it ends so.
pub record Ends (g : Setting) (last : ℕ) (ending : Ending) : Type 0 where
  pub has_run : (s : Signals) × IsRun g s
  pub every_run : (s : Signals) → IsRun g s → EndsAs g s last ending

-- Two runs are the same on all that a netlist drives and keeps.
pub record SameRun (cells : List PlainCell) (s u : Signals) : Type 0 where
  pub nets : (t net width : ℕ) → Contains (driven_nets cells) (net, width) → s.net t net ≡ u.net t net
  pub banks : (t bank addr : ℕ) → bank < count_by is_bank cells → s.bank t bank addr ≡ u.bank t bank addr
  pub drams : (t dram addr : ℕ) → dram < count_by is_dram cells → s.dram t dram addr ≡ u.dram t dram addr
  pub phases : (t channel : ℕ) → channel < count_by is_unit cells → s.phase t channel ≡ u.phase t channel
  pub asked : (t : ℕ) → s.asked t ≡ u.asked t

-- the setting has exactly one run
pub record OneRun (g : Setting) : Type 0 where
  pub some_run : (s : Signals) × IsRun g s
  pub same_run : (s u : Signals) → IsRun g s → IsRun g u → SameRun g.cells s u
