-- When a list of cells is a netlist.
use Rattle.std.specs.Prelude.{◌≡◌, ℕ, ◌^◌, ◌<◌, ◌≤◌, List, [], ◌∷◌, ◌++◌, Bool, true, false, ◌==◌, IsTrue, if◌then◌else◌, length, map, flat_map, filter_map, count_by, All, Contains, Option, Some, None}
use Rattle.sp_words.specs.declared.types.Ty.{Ty}
use Rattle.sp_words.specs.Types.{width_of}
use Rattle.sp_words.specs.Names.{IsName}
use Rattle.sp_netlist.specs.declared.cell.CellOp.{CellOp}
use Rattle.sp_netlist.specs.declared.cell.CellOp.TheVariants.{Lt, Eq}
use Rattle.sp_netlist.specs.Cells.{PlainCell, in_cell, out_cell, done_cell, const_cell, op_cell, not_cell, shift_cell, cast_cell, mux_cell, reg_cell, bank_cell, read_tap, write_tap, dram_cell, load_unit, store_unit}

-- the kinds of cells that are numbered, or counted
abbrev pub is_in : PlainCell → Bool
is_in (in_cell name net ty) = true
is_in cell = false

abbrev pub is_done : PlainCell → Bool
is_done (done_cell net) = true
is_done cell = false

abbrev pub is_bank : PlainCell → Bool
is_bank (bank_cell bank width len) = true
is_bank cell = false

abbrev pub is_dram : PlainCell → Bool
is_dram (dram_cell dram name ty dims) = true
is_dram cell = false

-- load and store units have one numbering
abbrev pub is_unit : PlainCell → Bool
is_unit (load_unit channel dram ready net request last addr) = true
is_unit (store_unit channel dram ready request last addr word) = true
is_unit cell = false

-- the names of each of the three kinds of port
abbrev pub in_name : PlainCell → Option (List ℕ)
in_name (in_cell name net ty) = Some name
in_name cell = None

abbrev pub out_name : PlainCell → Option (List ℕ)
out_name (out_cell name net ty) = Some name
out_name cell = None

abbrev pub dram_name : PlainCell → Option (List ℕ)
dram_name (dram_cell dram name ty dims) = Some name
dram_name cell = None

abbrev pub IsWidth : ℕ → Type 0
IsWidth width = (1 ≤ width) × (width ≤ 64)

-- lengths and dimensions
abbrev pub IsLength : ℕ → Type 0
IsLength len = (1 ≤ len) × (len < 2 ^ 31)

-- What a cell obeys by itself, after the cells before it, where `cells` are all: its numbers are in their
-- ranges, it has the next number of its kind, its name is one and is new in its kind, and the bank or DRAM that it
-- names stands.
abbrev pub IsRight : List PlainCell → List PlainCell → PlainCell → Type 0
IsRight cells before (in_cell name net ty) = IsName name × (Contains (filter_map in_name before) name → ⊥)
IsRight cells before (out_cell name net ty) = IsName name × (Contains (filter_map out_name before) name → ⊥)
IsRight cells before (done_cell net) = count_by is_done before ≡ 0
IsRight cells before (const_cell net width word) = IsWidth width × (word < 2 ^ width)
IsRight cells before (op_cell net ty op a b) = Unit {0}
IsRight cells before (not_cell net ty a) = Unit {0}
IsRight cells before (shift_cell net ty side a places) = places < 64
IsRight cells before (cast_cell net from to a) = Unit {0}
IsRight cells before (mux_cell net width choice a b) = IsWidth width
IsRight cells before (reg_cell net width first next enable) = IsWidth width × (first < 2 ^ width)
IsRight cells before (bank_cell bank width len) = (bank ≡ count_by is_bank before) × IsWidth width × IsLength len
IsRight cells before (read_tap net bank enable addr) = bank < count_by is_bank cells
IsRight cells before (write_tap bank enable addr word) = bank < count_by is_bank cells
IsRight cells before (dram_cell dram name ty dims) =
    (dram ≡ count_by is_dram before) × IsName name × (Contains (filter_map dram_name before) name → ⊥)
    × (1 ≤ length dims) × (length dims ≤ 3) × All IsLength dims
IsRight cells before (load_unit channel dram ready net request last addr) =
    (channel ≡ count_by is_unit before) × (dram < count_by is_dram cells)
IsRight cells before (store_unit channel dram ready request last addr word) =
    (channel ≡ count_by is_unit before) × (dram < count_by is_dram cells)

-- the width of the words of a bank, and of a DRAM
abbrev pub bank_width : List PlainCell → ℕ → ℕ
bank_width [] n = 0
bank_width (bank_cell bank width len ∷ cells) n = if bank == n then width else bank_width cells n
bank_width (cell ∷ cells) n = bank_width cells n

abbrev pub dram_width : List PlainCell → ℕ → ℕ
dram_width [] n = 0
dram_width (dram_cell dram name ty dims ∷ cells) n = if dram == n then width_of ty else dram_width cells n
dram_width (cell ∷ cells) n = dram_width cells n

-- a comparison gives a bit, any other operator a word of its type
abbrev pub op_width : Ty → CellOp → ℕ
op_width ty Lt = 1
op_width ty Eq = 1
op_width ty op = width_of ty

-- the nets that a cell drives, each with the width that it gives it
abbrev pub drives : List PlainCell → PlainCell → List (ℕ × ℕ)
drives cells (in_cell name net ty) = (net, width_of ty) ∷ []
drives cells (out_cell name net ty) = []
drives cells (done_cell net) = []
drives cells (const_cell net width word) = (net, width) ∷ []
drives cells (op_cell net ty op a b) = (net, op_width ty op) ∷ []
drives cells (not_cell net ty a) = (net, width_of ty) ∷ []
drives cells (shift_cell net ty side a places) = (net, width_of ty) ∷ []
drives cells (cast_cell net from to a) = (net, width_of to) ∷ []
drives cells (mux_cell net width choice a b) = (net, width) ∷ []
drives cells (reg_cell net width first next enable) = (net, width) ∷ []
drives cells (bank_cell bank width len) = []
drives cells (read_tap net bank enable addr) = (net, bank_width cells bank) ∷ []
drives cells (write_tap bank enable addr word) = []
drives cells (dram_cell dram name ty dims) = []
drives cells (load_unit channel dram ready net request last addr) = (ready, 1) ∷ (net, dram_width cells dram) ∷ []
drives cells (store_unit channel dram ready request last addr word) = (ready, 1) ∷ []

-- the nets that a cell reads, each with the width at which it reads it
abbrev pub reads : List PlainCell → PlainCell → List (ℕ × ℕ)
reads cells (in_cell name net ty) = []
reads cells (out_cell name net ty) = (net, width_of ty) ∷ []
reads cells (done_cell net) = (net, 1) ∷ []
reads cells (const_cell net width word) = []
reads cells (op_cell net ty op a b) = (a, width_of ty) ∷ (b, width_of ty) ∷ []
reads cells (not_cell net ty a) = (a, width_of ty) ∷ []
reads cells (shift_cell net ty side a places) = (a, width_of ty) ∷ []
reads cells (cast_cell net from to a) = (a, width_of from) ∷ []
reads cells (mux_cell net width choice a b) = (choice, 1) ∷ (a, width) ∷ (b, width) ∷ []
reads cells (reg_cell net width first next enable) = (next, width) ∷ (enable, 1) ∷ []
reads cells (bank_cell bank width len) = []
reads cells (read_tap net bank enable addr) = (enable, 1) ∷ (addr, 32) ∷ []
reads cells (write_tap bank enable addr word) = (enable, 1) ∷ (addr, 32) ∷ (word, bank_width cells bank) ∷ []
reads cells (dram_cell dram name ty dims) = []
reads cells (load_unit channel dram ready net request last addr) = (request, 1) ∷ (last, 1) ∷ (addr, 32) ∷ []
reads cells (store_unit channel dram ready request last addr word) =
    (request, 1) ∷ (last, 1) ∷ (addr, 32) ∷ (word, dram_width cells dram) ∷ []

abbrev pub driven_nets : List PlainCell → List (ℕ × ℕ)
driven_nets cells = flat_map (drives cells) cells

abbrev pub read_nets : List PlainCell → List (ℕ × ℕ)
read_nets cells = flat_map (reads cells) cells

-- the cells whose net follows from other nets in the same cycle
abbrev pub is_computed : PlainCell → Bool
is_computed (op_cell net ty op a b) = true
is_computed (not_cell net ty a) = true
is_computed (shift_cell net ty side a places) = true
is_computed (cast_cell net from to a) = true
is_computed (mux_cell net width choice a b) = true
is_computed cell = false

-- a cell in the list computes the second net from the first, among others
abbrev pub Feeds : List PlainCell → ℕ → ℕ → Type 0
Feeds cells a net = (cell : PlainCell) × Contains cells cell × IsTrue (is_computed cell)
    × Contains (map (λ p. p.0) (reads cells cell)) a × Contains (map (λ p. p.0) (drives cells cell)) net

-- a chain of such cells leads from one net to another
pub data Leads (cells : List PlainCell) : ℕ → ℕ → Type 0 where
  one_cell : {a b : ℕ} → Feeds cells a b → Leads cells a b
  more_cells : {a b c : ℕ} → Feeds cells a b → Leads cells b c → Leads cells a c

-- Nets can be ranked so that each computed net stands above those that it is computed from: so no chain leads
-- from a net back to it.
abbrev pub IsRanked : List PlainCell → Type 0
IsRanked cells = (rank : ℕ → ℕ) × ((a net : ℕ) → Feeds cells a net → rank a < rank net)

-- The list is a netlist.
pub record IsNetlist (cells : List PlainCell) : Type 0 where
  pub right : (before : List PlainCell) (cell : PlainCell) (after : List PlainCell) → cells ≡ before ++ cell ∷ after → IsRight cells before cell
  pub one_done : count_by is_done cells ≡ 1
  pub numbers : All (λ p. p.0 < 2 ^ 64) (driven_nets cells)
  -- each net that is named is driven once, and stands everywhere at the width that its driver gives it
  pub driven_once : (net : ℕ) → count_by (λ p. p.0 == net) (driven_nets cells) ≤ 1
  pub read_driven : All (Contains (driven_nets cells)) (read_nets cells)
  -- no net is computed from itself
  pub ranked : IsRanked cells
