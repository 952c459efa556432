use Rattle.std.proofs.Common.{◌≡◌, take, flat_map, map}
use Rattle.sp_netlist.specs.Cells.{plain_cells}
use Rattle.sp_sim.specs.Loading.{fresh_dram}
use Rattle.sp_sim.proofs.load.first_drams.Given as goal

abbrev pub invariant-loop-cell : goal.invariant-loop-cell
invariant-loop-cell l = l.drams.items ≡ flat_map (fresh_dram (map (λ v. v.items) l.contents)) (plain_cells (take l.cell-index l.cells))
