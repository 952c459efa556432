use Rattle.std.proofs.Common.{◌≡◌, take, filter_map}
use Rattle.sp_netlist.specs.Cells.{plain_cells}
use Rattle.sp_netlist.specs.Tables.{dram_width_in}
use Rattle.sp_netlist.proofs.tables.dram_widths.Given as goal

abbrev pub invariant-loop-cell : goal.invariant-loop-cell
invariant-loop-cell l = l.widths.items ≡ filter_map dram_width_in (plain_cells (take l.cell-index l.cells))
