-- Runs: steps of one task behind each other, by the places of their nets among those of a row.
use Rattle.std.specs.Prelude.{◌≡◌, ℕ, ◌<◌, List, [], map, flat_map, length, slice_index, All, Contains}
use Rattle.std.specs.List.Sorted.{IsStrictlyIncreasing}
use Rattle.sp_netlist.specs.Cells.{PlainCell}
use Rattle.sp_netlist.specs.Rules.{driven_nets, reads}
use Rattle.sp_sim.specs.declared.run.Places.{Places}
use Rattle.sp_sim.specs.declared.run.Run.{Run}
use Rattle.sp_sim.specs.declared.step.Step.{Step}
use Rattle.sp_sim.specs.declared.step.Task.{Task}
use Rattle.sp_sim.specs.Steps.{cell_by, cell_of}

-- places in a list of so many nets
pub record AreWithin (count : ℕ) (at : Places) : Type 0 where
  pub net : at.net < count
  pub first : at.first < count
  pub second : at.second < count
  pub third : at.third < count

abbrev pub IsRunWithin : ℕ → Run → Type 0
IsRunWithin count run = All (AreWithin count) run.places.items

-- the cell of a task at places of these nets, and the cells of runs
abbrev pub cell_in : List ℕ → Task → Places → PlainCell
cell_in nets task at = cell_by task (slice_index nets at.net) (slice_index nets at.first) (slice_index nets at.second) (slice_index nets at.third)

abbrev pub run_cells : List ℕ → Run → List PlainCell
run_cells nets run = map (cell_in nets run.task) run.places.items

abbrev pub runs_cells : List ℕ → List Run → List PlainCell
runs_cells nets = flat_map (run_cells nets)

-- the place of a net, or any place where it doesn't stand among the nets
pub record IsPlaced (nets : List ℕ) (net place : ℕ) : Type 0 where
  pub within : place < length nets
  pub found : Contains nets net → slice_index nets place ≡ net

-- the net of a step and those that its cell reads stand among the nets
pub record StepStands (nets : List ℕ) (step : Step) : Type 0 where
  pub net : Contains nets step.net
  pub operands : (n : ℕ) → Contains (map (λ p. p.0) (reads [] (cell_of step))) n → Contains nets n

-- the nets that the cells drive, ascending
pub record AreNetsOf (cells : List PlainCell) (nets : List ℕ) : Type 0 where
  pub ascending : IsStrictlyIncreasing nets
  pub covers : (net width : ℕ) → Contains (driven_nets cells) (net, width) → Contains nets net
  pub only : (net : ℕ) → Contains nets net → (width : ℕ) × Contains (driven_nets cells) (net, width)

-- runs that stand among the nets of a row, whose cells are these
pub record AreRunsOf (cells : List PlainCell) (runs : List Run) (computed : List PlainCell) : Type 0 where
  pub within : (nets : List ℕ) → AreNetsOf cells nets → All (IsRunWithin (length nets)) runs
  pub same : (nets : List ℕ) → AreNetsOf cells nets → runs_cells nets runs ≡ computed
