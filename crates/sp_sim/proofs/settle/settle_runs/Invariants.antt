use Rattle.std.proofs.Common.{◌≡◌, length, take}
use Rattle.std.specs.List.{fold, zip}
use Rattle.sp_sim.specs.Runs.{runs_cells}
use Rattle.sp_sim.specs.Settling.{IsRow, settle_cell}
use Rattle.sp_sim.proofs.settle.settle_runs.Given as goal

abbrev pub invariant-loop-run : goal.invariant-loop-run
invariant-loop-run l = (zip l.nets l.words ≡ fold settle_cell (zip l.nets l.initial.words) (runs_cells l.nets (take l.run-index l.runs))) × IsRow l.netlist (zip l.nets l.words) × (length l.words ≡ length l.nets)
