use Rattle.std.proofs.Common.{◌≡◌, ◌≤◌, take, count_by}
use Rattle.sp_netlist.specs.Cells.{plain_cells}
use Rattle.sp_netlist.specs.Rules.{is_unit}
use Rattle.sp_sim.proofs.load.count_units.Given as goal

abbrev pub invariant-loop-cell : goal.invariant-loop-cell
invariant-loop-cell l = (l.count ≡ count_by is_unit (plain_cells (take l.cell-index l.cells))) × (l.count ≤ l.cell-index)
