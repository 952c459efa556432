use Rattle.std.proofs.Common.{◌≡◌, length, take}
use Rattle.std.specs.BTreeMap.{get}
use Rattle.std.specs.Ordering.{nat_cmp}
use Rattle.sp_netlist.specs.Cells.{plain_cells}
use Rattle.sp_netlist.proofs.CellGraphSteps.{HasRows}
use Rattle.sp_netlist.proofs.loops.cell_graph.Given as goal

abbrev pub invariant-loop-place : goal.invariant-loop-place
invariant-loop-place l = record {
  nodes : length l.graph ≡ length l.cells;
  rows : HasRows (get nat_cmp l.places) (plain_cells (take l.place l.cells)) l.graph;
}
