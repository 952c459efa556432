-- A part of a netlist, and what it does whatever else stands beside it.
use Rattle.std.specs.Prelude.{◌≡◌, ℕ, ◌<◌, ◌≤◌, List, ◌∷◌, ◌++◌, Bool, false, ◌==◌, IsTrue, IsFalse, All, Contains, map, slice_index, count_by, ◌⊎◌}
use Rattle.std.specs.List.{list_any}
use Rattle.sp_netlist.specs.declared.cell.Port.{Port}
use Rattle.sp_netlist.specs.Cells.{PlainCell, bank_cell, read_tap, write_tap, dram_cell, load_unit, store_unit}
use Rattle.sp_netlist.specs.Rules.{is_in, driven_nets, read_nets, IsRanked}
use Rattle.sp_netlist.specs.Signals.{Setting, Signals, cell_asks, delay_of, bank_after, dram_after, given_words, Obeys, IsRun}
use Rattle.sp_netlist.specs.Cycle.{is_enabled_tap}

-- the cell stands for this bank, DRAM or channel
abbrev pub stands_for_bank : ℕ → PlainCell → Bool
stands_for_bank n (bank_cell bank width len) = bank == n
stands_for_bank n cell = false

abbrev pub stands_for_dram : ℕ → PlainCell → Bool
stands_for_dram n (dram_cell dram name ty dims) = dram == n
stands_for_dram n cell = false

abbrev pub stands_for_channel : ℕ → PlainCell → Bool
stands_for_channel n (load_unit channel dram ready net request last addr) = channel == n
stands_for_channel n (store_unit channel dram ready request last addr word) = channel == n
stands_for_channel n cell = false

-- the cell stands for this bank or DRAM, or has a port on it
abbrev pub names_bank : ℕ → PlainCell → Bool
names_bank n (bank_cell bank width len) = bank == n
names_bank n (read_tap net bank enable addr) = bank == n
names_bank n (write_tap bank enable addr word) = bank == n
names_bank n cell = false

abbrev pub names_dram : ℕ → PlainCell → Bool
names_dram n (dram_cell dram name ty dims) = dram == n
names_dram n (load_unit channel dram ready net request last addr) = dram == n
names_dram n (store_unit channel dram ready request last addr word) = dram == n
names_dram n cell = false

-- some cell of the list does so, and none does
abbrev pub SomeCell : (PlainCell → Bool) → List PlainCell → Type 0
SomeCell test cells = IsTrue (list_any test cells)

abbrev pub NoCell : (PlainCell → Bool) → List PlainCell → Type 0
NoCell test cells = IsFalse (list_any test cells)

-- These cells stand in the list, one after the other, and no other cell names a bank or DRAM of theirs.
pub record IsPart (cells front part rest : List PlainCell) : Type 0 where
  pub stands : cells ≡ front ++ part ++ rest
  pub banks : (bank : ℕ) → SomeCell (stands_for_bank bank) part → NoCell (names_bank bank) front × NoCell (names_bank bank) rest
  pub drams : (dram : ℕ) → SomeCell (stands_for_dram dram) part → NoCell (names_dram dram) front × NoCell (names_dram dram) rest

-- The signals obey the cells of the part by themselves: a bank and a DRAM of the part follow its taps and
-- units alone.
pub record RunsPart (g : Setting) (s : Signals) (front part : List PlainCell) : Type 0 where
  pub cells : (before : List PlainCell) (cell : PlainCell) (after : List PlainCell) → part ≡ before ++ cell ∷ after
      → Obeys (record { cells = part; args = g.args; drams = g.drams; delays = g.delays }) s (front ++ before) cell

-- The part reads no other nets than these and its own, and has the cell of each bank that it names.
pub record ReadsOnly (inputs : List ℕ) (part : List PlainCell) : Type 0 where
  pub nets : All (λ p. Contains inputs p.0 ⊎ Contains (map (λ q. q.0) (driven_nets part)) p.0) (read_nets part)
  pub banks : (bank : ℕ) → SomeCell (names_bank bank) part → SomeCell (stands_for_bank bank) part
  pub ranked : IsRanked part

-- What comes to the part from outside is the same in two runs of it, where these cells stand before it: the
-- words of its inputs and of the DRAMs that it names and hasn't, its arguments, and the delays that its
-- channels take.
pub record SameOutside (inputs : List ℕ) (part : List PlainCell) (g : Setting) (s : Signals) (front : List PlainCell) (g' : Setting) (s' : Signals) (front' : List PlainCell) : Type 0 where
  pub nets : (t net : ℕ) → Contains inputs net → s.net t net ≡ s'.net t net
  pub drams : (t dram addr : ℕ) → SomeCell (names_dram dram) part → NoCell (stands_for_dram dram) part → s.dram t dram addr ≡ s'.dram t dram addr
  pub given : (dram addr : ℕ) → SomeCell (stands_for_dram dram) part → slice_index (given_words g dram) addr ≡ slice_index (given_words g' dram) addr
  pub args : (before : List PlainCell) (cell : PlainCell) (after : List PlainCell) → part ≡ before ++ cell ∷ after → IsTrue (is_in cell)
      → slice_index g.args (count_by is_in (front ++ before)) ≡ slice_index g'.args (count_by is_in (front' ++ before))
  pub delays : (t : ℕ) (before : List PlainCell) (cell : PlainCell) (after : List PlainCell) → part ≡ before ++ cell ∷ after → IsTrue (cell_asks s t cell)
      → delay_of g s t (front ++ before) ≡ delay_of g' s' t (front' ++ before)

-- Two runs are the same on all that the part drives and keeps.
pub record SamePart (part : List PlainCell) (s s' : Signals) : Type 0 where
  pub nets : (t net : ℕ) → Contains (map (λ p. p.0) (driven_nets part)) net → s.net t net ≡ s'.net t net
  pub banks : (t bank addr : ℕ) → SomeCell (stands_for_bank bank) part → s.bank t bank addr ≡ s'.bank t bank addr
  pub drams : (t dram addr : ℕ) → SomeCell (stands_for_dram dram) part → s.dram t dram addr ≡ s'.dram t dram addr
  pub phases : (t channel : ℕ) → SomeCell (stands_for_channel channel) part → s.phase t channel ≡ s'.phase t channel

-- the cells name banks of these numbers alone
abbrev pub BanksWithin : ℕ → ℕ → List PlainCell → Type 0
BanksWithin low high cells = (bank : ℕ) → SomeCell (names_bank bank) cells → (low ≤ bank) × (bank < high)

-- The laws of parts.
pub record Locality : Type 0 where
  -- a run obeys each part by itself
  pub view : (g : Setting) (s : Signals) (front part rest : List PlainCell) → IsRun g s → IsPart g.cells front part rest → RunsPart g s front part
  -- what it does is determined by what comes from outside, in whatever netlists it stands
  pub determined : (inputs : List ℕ) (part : List PlainCell) → ReadsOnly inputs part
      → (g : Setting) (s : Signals) (front : List PlainCell) (g' : Setting) (s' : Signals) (front' : List PlainCell)
      → RunsPart g s front part → RunsPart g' s' front' part → SameOutside inputs part g s front g' s' front' → SamePart part s s'
  -- other cells don't write a bank or a DRAM that they don't name, and have no tap on it
  pub bank : (front part rest : List PlainCell) (words : ℕ → ℕ) (bank addr old : ℕ) → NoCell (names_bank bank) front → NoCell (names_bank bank) rest
      → bank_after (front ++ part ++ rest) words bank addr old ≡ bank_after part words bank addr old
  pub dram : (front part rest : List PlainCell) (words : ℕ → ℕ) (dram addr old : ℕ) → NoCell (names_dram dram) front → NoCell (names_dram dram) rest
      → dram_after (front ++ part ++ rest) words dram addr old ≡ dram_after part words dram addr old
  pub taps : (front part rest : List PlainCell) (words : ℕ → ℕ) (port : Port) (bank : ℕ) → NoCell (names_bank bank) front → NoCell (names_bank bank) rest
      → count_by (is_enabled_tap words port bank) (front ++ part ++ rest) ≡ count_by (is_enabled_tap words port bank) part
  -- each cell of a part is obeyed, behind some cells
  pub cell : (g : Setting) (s : Signals) (front part : List PlainCell) → RunsPart g s front part → (cell : PlainCell) → Contains part cell
      → (before : List PlainCell) × Obeys (record { cells = part; args = g.args; drams = g.drams; delays = g.delays }) s before cell
  -- ranks of a netlist rank its parts
  pub ranked : (front part rest : List PlainCell) → IsRanked (front ++ part ++ rest) → IsRanked part
  -- banks of other numbers aren't named, and numbers add up
  pub others : (low high bank : ℕ) (cells : List PlainCell) → BanksWithin low high cells → (bank < low) ⊎ (high ≤ bank) → NoCell (names_bank bank) cells
  pub both : (low middle high : ℕ) (front back : List PlainCell) → low ≤ middle → middle ≤ high → BanksWithin low middle front → BanksWithin middle high back → BanksWithin low high (front ++ back)
