use Rattle.std.proofs.Common.{◌≡◌, length, map, take}
use Rattle.std.specs.List.{fold, zip}
use Rattle.sp_sim.specs.Runs.{cell_in}
use Rattle.sp_sim.specs.Settling.{IsRow, settle_cell}
use Rattle.sp_sim.proofs.settle.settle_with.Given as goal

abbrev pub invariant-loop-at : goal.invariant-loop-at
invariant-loop-at g l = (zip l.nets l.words ≡ fold settle_cell (zip l.nets l.initial.words) (map (cell_in l.nets l.task) (take l.at-index l.places))) × IsRow l.netlist (zip l.nets l.words) × (length l.words ≡ length l.nets)
