-- A draft of a netlist: nets are promised, then cells are added that drive them, so that no loop can stand.
use Rattle.std.specs.Prelude.{◌≡◌, ◌≢◌, ℕ, ◌≤◌, ◌<◌, ◌==◌, Bool, true, not, IsTrue, ◌⊎◌, List, ◌++◌, ◌∷◌, length, Option, Some, slice_get, option_map, count_by, All, Contains}
use Rattle.std.specs.List.{AllByRecursion as Each}
use Rattle.sp_words.specs.Types.{width_of}
use Rattle.sp_netlist.specs.Cells.{PlainCell, bank_cell, dram_cell, load_unit}
use Rattle.sp_netlist.specs.Rules.{IsRight, IsWidth, IsRanked, Feeds, is_computed, is_done, is_bank, is_dram, bank_width, dram_width, drives, reads, driven_nets, read_nets}

-- For each promised net, in the order of the numbers, its width and whether it is kept: the net of an `in`,
-- `const`, `reg`, `read`, `load` or `store` cell is. Then the cells in order.
pub record Draft : Type 0 where
  pub promised : List (ℕ × Bool)
  pub cells : List PlainCell

-- the width with which a net was promised, if it was
abbrev pub promised_width : Draft → ℕ → Option ℕ
promised_width d net = option_map (λ p. p.0) (slice_get d.promised net)

-- the net was promised as kept
abbrev pub IsKept : Draft → ℕ → Type 0
IsKept d net = option_map (λ p. p.1) (slice_get d.promised net) ≡ Some true

-- how often a net stands in a list of nets with their widths, and how often the cells drive it
abbrev pub net_count : List (ℕ × ℕ) → ℕ → ℕ
net_count nets net = count_by (λ p. p.0 == net) nets

abbrev pub driver_count : List PlainCell → ℕ → ℕ
driver_count cells net = net_count (driven_nets cells) net

-- the word of the net stands before any cell that is added next: it is kept, or driven already
abbrev pub IsReady : Draft → ℕ → Type 0
IsReady d net = IsKept d net ⊎ (driver_count d.cells net ≡ 1)

-- the two nets of a load are two
abbrev pub DrivesApart : PlainCell → Type 0
DrivesApart (load_unit channel dram ready net request last addr) = ready ≢ net
DrivesApart cell = Unit {0}

-- The cell may be added to the draft.
pub record CanAdd (d : Draft) (cell : PlainCell) : Type 0 where
  -- it obeys the rules on a cell after those before, whose banks and DRAMs it may name
  pub right : IsRight d.cells d.cells cell
  -- the nets that it drives were promised so, and aren't driven yet
  pub drives_promised : Each (λ p. slice_get d.promised p.0 ≡ Some (p.1, not (is_computed cell))) (drives d.cells cell)
  pub drives_new : Each (λ p. driver_count d.cells p.0 ≡ 0) (drives d.cells cell)
  pub drives_apart : DrivesApart cell
  -- the nets that it reads were promised at the width at which it reads them
  pub reads_promised : Each (λ p. promised_width d p.0 ≡ Some p.1) (reads d.cells cell)
  -- what it computes from stands
  pub operands_ready : IsTrue (is_computed cell) → Each (λ p. IsReady d p.0) (reads d.cells cell)

-- Every promised net is driven, and one done stands.
pub record IsComplete (d : Draft) : Type 0 where
  pub all_driven : (net : ℕ) → net < length d.promised → driver_count d.cells net ≡ 1
  pub one_done : count_by is_done d.cells ≡ 1

-- the bank or DRAM is found by its number
abbrev pub Declares : List PlainCell → PlainCell → Type 0
Declares cells (bank_cell bank width len) = (bank < count_by is_bank cells) × (bank_width cells bank ≡ width)
Declares cells (dram_cell dram name ty dims) = (dram < count_by is_dram cells) × (dram_width cells dram ≡ width_of ty)
Declares cells cell = Unit {0}

-- What is true of every draft that was built so.
pub record IsDraft (d : Draft) : Type 0 where
  pub widths : All (λ p. IsWidth p.0) d.promised
  pub right : (before : List PlainCell) (cell : PlainCell) (after : List PlainCell) → d.cells ≡ before ++ cell ∷ after → IsRight d.cells before cell
  pub declared : (cell : PlainCell) → Contains d.cells cell → Declares d.cells cell
  pub driven_promised : All (λ p. promised_width d p.0 ≡ Some p.1) (driven_nets d.cells)
  pub driven_once : (net : ℕ) → driver_count d.cells net ≤ 1
  pub read_promised : All (λ p. promised_width d p.0 ≡ Some p.1) (read_nets d.cells)
  pub fed_ready : (a net : ℕ) → Feeds d.cells a net → IsReady d a
  pub ranked : IsRanked d.cells

-- What stands in a draft still stands after more nets are promised and more cells are added.
pub record Keeps (old new : Draft) : Type 0 where
  pub promised : (net width : ℕ) (kept : Bool) → slice_get old.promised net ≡ Some (width, kept) → slice_get new.promised net ≡ Some (width, kept)
  pub widths : (net width : ℕ) → promised_width old net ≡ Some width → promised_width new net ≡ Some width
  pub kept : (net : ℕ) → IsKept old net → IsKept new net
  pub driven : (net : ℕ) → driver_count old.cells net ≡ 1 → driver_count new.cells net ≡ 1
  pub ready : (net : ℕ) → IsReady old net → IsReady new net
  pub banks : (bank : ℕ) → bank < count_by is_bank old.cells → (bank < count_by is_bank new.cells) × (bank_width new.cells bank ≡ bank_width old.cells bank)
  pub drams : (dram : ℕ) → dram < count_by is_dram old.cells → (dram < count_by is_dram new.cells) × (dram_width new.cells dram ≡ dram_width old.cells dram)
