-- The cells of a netlist: those of its arguments and DRAMs, then units that load and store, gates and banks, then those of its outputs and
-- the end.
use Rattle.std.specs.Prelude.{◌≡◌, ℕ, suc, Bool, true, false, ◌||◌, not, List, [], ◌∷◌, ◌++◌, length}
use Rattle.sp_words.specs.Ports.{PlainPort}
use Rattle.sp_netlist.specs.Cells.{PlainCell, in_cell, out_cell, done_cell, dram_cell, load_unit, store_unit}
use Rattle.sp_netlist.specs.Draft.{Draft}
use Rattle.sp_netlist.specs.Parts.{NoCell}
use Rattle.sp_gates.specs.Grows.{is_gate}
use Rattle.sp_taps.specs.Stores.{is_bank_part}

-- a cell for each port with its net, in order
abbrev pub in_cells : List PlainPort → List ℕ → List PlainCell
in_cells (port ∷ ports) (net ∷ nets) = in_cell port.name net port.ty ∷ in_cells ports nets
in_cells _ _ = []

abbrev pub out_cells : List PlainPort → List ℕ → List PlainCell
out_cells (port ∷ ports) (net ∷ nets) = out_cell port.name net port.ty ∷ out_cells ports nets
out_cells _ _ = []

-- a cell for each DRAM, in order, with the numbers from one on
abbrev pub dram_cells : (first : ℕ) → List PlainPort → List PlainCell
dram_cells first [] = []
dram_cells first (port ∷ ports) = dram_cell first port.name port.ty port.dims ∷ dram_cells (suc first) ports

-- what stands before all else: arguments and DRAMs
abbrev pub front_cells : (args : List PlainPort) → (nets : List ℕ) → (drams : List PlainPort) → List PlainCell
front_cells args nets drams = in_cells args nets ++ dram_cells 0 drams

-- a unit that loads, and one that stores
abbrev pub is_load : PlainCell → Bool
is_load (load_unit channel dram ready net request last addr) = true
is_load cell = false

abbrev pub is_store : PlainCell → Bool
is_store (store_unit channel dram ready request last addr word) = true
is_store cell = false

-- what doesn't stand inside of a frame: a port, a memory outside, the end
abbrev pub is_outside : PlainCell → Bool
is_outside cell = not ((is_gate cell || is_bank_part cell) || (is_load cell || is_store cell))

abbrev pub is_no_unit : PlainCell → Bool
is_no_unit cell = not (is_load cell || is_store cell)

-- cells were added at the end, all of which are units
pub record AddsUnits (old new : Draft) : Type 0 where
  pub added : List PlainCell
  pub stands : new.cells ≡ old.cells ++ added
  pub all : NoCell is_no_unit added

-- cells were added at the end, all of which are gates, banks and taps, and units
pub record AddsInside (old new : Draft) : Type 0 where
  pub added : List PlainCell
  pub stands : new.cells ≡ old.cells ++ added
  pub all : NoCell is_outside added

-- The cells are those of these ports, of which arguments and outputs are on these nets, with these cells between them, and the end.
pub record IsFramed (cells : List PlainCell) (args : List PlainPort) (arg_nets : List ℕ) (drams : List PlainPort) (inside : List PlainCell) (outs : List PlainPort) (out_nets : List ℕ) (done : ℕ) : Type 0 where
  pub stands : cells ≡ front_cells args arg_nets drams ++ inside ++ out_cells outs out_nets ++ done_cell done ∷ []
  pub all_inside : NoCell is_outside inside
  pub arg_for_each : length arg_nets ≡ length args
  pub out_for_each : length out_nets ≡ length outs
