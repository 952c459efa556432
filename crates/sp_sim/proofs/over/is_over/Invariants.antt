use Rattle.std.proofs.Common.{◌≡◌, take}
use Rattle.sp_netlist.specs.Cells.{plain_cells}
use Rattle.sp_netlist.specs.Cycle as cycle
use Rattle.sp_sim.specs.Rows.{word_of}
use Rattle.sp_sim.proofs.over.is_over.Given as goal

abbrev pub invariant-loop-cell : goal.invariant-loop-cell
invariant-loop-cell l = l.over ≡ cycle.is_over (plain_cells (take l.cell-index l.cells)) (word_of l.row)
