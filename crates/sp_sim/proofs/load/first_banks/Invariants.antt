use Rattle.std.proofs.Common.{◌≡◌, take, flat_map}
use Rattle.sp_netlist.specs.Cells.{plain_cells}
use Rattle.sp_sim.specs.Loading.{fresh_bank}
use Rattle.sp_sim.proofs.load.first_banks.Given as goal

abbrev pub invariant-loop-cell : goal.invariant-loop-cell
invariant-loop-cell l = l.banks.items ≡ flat_map fresh_bank (plain_cells (take l.cell-index l.cells))
