use Rattle.std.proofs.Common.{◌≡◌, take, flat_map}
use Rattle.sp_netlist.specs.Cells.{plain_cells}
use Rattle.sp_verilog.specs.Text.{bank_sizes}
use Rattle.sp_verilog.proofs.memories.banks_of.Given as goal

abbrev pub invariant-loop-cell : goal.invariant-loop-cell
invariant-loop-cell l = l.banks.items ≡ flat_map bank_sizes (plain_cells (take l.cell-index l.cells))
