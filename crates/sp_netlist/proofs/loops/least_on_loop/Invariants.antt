use Rattle.std.proofs.Common.{take}
use Rattle.sp_netlist.specs.Cells.{plain_cells}
use Rattle.sp_netlist.specs.Tables.{IsLeastOrNone}
use Rattle.sp_netlist.specs.CellGraph.{IsComputedOnLoop}
use Rattle.sp_netlist.proofs.loops.least_on_loop.Given as goal

abbrev pub invariant-loop-place : goal.invariant-loop-place
invariant-loop-place l = IsLeastOrNone (IsComputedOnLoop (plain_cells (take l.place l.cells)) l.graph l.numbers) l.least
