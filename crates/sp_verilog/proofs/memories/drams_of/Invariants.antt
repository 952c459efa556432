use Rattle.std.proofs.Common.{◌≡◌, take, flat_map}
use Rattle.sp_netlist.specs.Cells.{plain_cells}
use Rattle.sp_verilog.specs.Text.{dram_widths}
use Rattle.sp_verilog.proofs.memories.drams_of.Given as goal

abbrev pub invariant-loop-cell : goal.invariant-loop-cell
invariant-loop-cell l = l.drams.items ≡ flat_map dram_widths (plain_cells (take l.cell-index l.cells))
