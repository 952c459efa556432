use Rattle.std.proofs.Common.{◌≡◌, take, map}
use Rattle.sp_netlist.specs.Cells.{plain_cells}
use Rattle.sp_sim.specs.Settling.{cell_at}
use Rattle.sp_sim.specs.Steps.{cells_of}
use Rattle.sp_sim.proofs.program.steps_at.Given as goal

abbrev pub invariant-loop-at : goal.invariant-loop-at
invariant-loop-at l = cells_of l.found.items ≡ map (cell_at (plain_cells l.cells)) (take l.at-index l.places)
