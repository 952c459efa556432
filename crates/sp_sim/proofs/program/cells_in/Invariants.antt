use Rattle.std.proofs.Common.{◌≡◌, take, filter}
use Rattle.sp_netlist.specs.Cells.{plain_cells}
use Rattle.sp_sim.specs.Programs.{in_part}
use Rattle.sp_sim.proofs.program.cells_in.Given as goal

abbrev pub invariant-loop-cell : goal.invariant-loop-cell
invariant-loop-cell l = plain_cells l.found.items ≡ filter (in_part l.part) (plain_cells (take l.cell-index l.cells))
