use Rattle.std.proofs.Common.{◌≡◌, ◌++◌, length, All}
use Rattle.sp_sim.specs.Runs.{runs_cells, IsRunWithin, StepStands}
use Rattle.sp_sim.specs.Steps.{cells_of}
use Rattle.sp_sim.proofs.run.runs_of.Given as goal

abbrev pub invariant-loop-rest : goal.invariant-loop-rest
invariant-loop-rest l = (runs_cells l.nets l.runs.items ++ cells_of l.rest ≡ cells_of l.fn.steps) × All (IsRunWithin (length l.nets)) l.runs.items × All (StepStands l.nets) l.rest

abbrev pub decreases-loop-rest : goal.decreases-loop-rest
decreases-loop-rest l = length l.rest
