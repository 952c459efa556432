use Rattle.std.proofs.Common.{◌≡◌, length, map, take, All}
use Rattle.sp_sim.specs.Runs.{cell_in, AreWithin}
use Rattle.sp_sim.specs.Steps.{cells_of}
use Rattle.sp_sim.proofs.run.run_of.Given as goal

abbrev pub invariant-loop-step : goal.invariant-loop-step
invariant-loop-step l = (map (cell_in l.nets l.task) l.places.items ≡ cells_of (take l.step-index l.steps)) × All (AreWithin (length l.nets)) l.places.items
