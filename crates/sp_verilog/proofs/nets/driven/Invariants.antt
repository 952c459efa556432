use Rattle.std.proofs.Common.{◌≡◌, take, flat_map}
use Rattle.sp_netlist.specs.Cells.{plain_cells}
use Rattle.sp_verilog.specs.Text.{cell_nets}
use Rattle.sp_verilog.proofs.nets.driven.Given as goal

abbrev pub invariant-loop-cell : goal.invariant-loop-cell
invariant-loop-cell l = l.nets.items ≡ flat_map (cell_nets l.memories.banks.items l.memories.drams.items) (plain_cells (take l.cell-index l.cells))
