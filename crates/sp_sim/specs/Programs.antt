-- The cells of a netlist by what they do in a cycle.
use Rattle.std.specs.Prelude.{◌≡◌, ℕ, Bool, true, false, List, map, filter}
use Rattle.sp_netlist.specs.Cells.{PlainCell, in_cell, const_cell, reg_cell, read_tap, write_tap, load_unit, store_unit, plain_cells}
use Rattle.sp_netlist.specs.Rules.{is_unit, is_done}
use Rattle.sp_netlist.specs.Order.{IsOrder}
use Rattle.sp_sim.specs.declared.program.Part.{Part}
use Rattle.sp_sim.specs.declared.program.Part.TheVariants.{Reads, Writes, Kept, Units, Dones}
use Rattle.sp_sim.specs.declared.program.Program.{Program}
use Rattle.sp_sim.specs.Settling.{cell_at}
use Rattle.sp_sim.specs.Runs.{AreRunsOf}

abbrev pub is_read : PlainCell → Bool
is_read (read_tap net bank enable addr) = true
is_read cell = false

abbrev pub is_write : PlainCell → Bool
is_write (write_tap bank enable addr word) = true
is_write cell = false

-- the cells that keep a word which may change
abbrev pub is_kept : PlainCell → Bool
is_kept (reg_cell net width first next enable) = true
is_kept (read_tap net bank enable addr) = true
is_kept (load_unit channel dram ready net request last addr) = true
is_kept (store_unit channel dram ready request last addr word) = true
is_kept cell = false

-- the cells whose word stays
abbrev pub is_fixed : PlainCell → Bool
is_fixed (in_cell name net ty) = true
is_fixed (const_cell net width word) = true
is_fixed cell = false

abbrev pub in_part : Part → PlainCell → Bool
in_part Reads = is_read
in_part Writes = is_write
in_part Kept = is_kept
in_part Units = is_unit
in_part Dones = is_done

-- The program has runs of the cells that compute, in an order in which operands come first, and the others in the netlist's.
pub record IsProgram (cells : List PlainCell) (program : Program) : Type 0 where
  pub order : List ℕ
  pub is_order : IsOrder cells order
  pub computed : AreRunsOf cells program.runs.items (map (cell_at cells) order)
  pub reads : plain_cells program.reads.items ≡ filter is_read cells
  pub writes : plain_cells program.writes.items ≡ filter is_write cells
  pub kept : plain_cells program.kept.items ≡ filter is_kept cells
  pub units : plain_cells program.units.items ≡ filter is_unit cells
  pub dones : plain_cells program.dones.items ≡ filter is_done cells
