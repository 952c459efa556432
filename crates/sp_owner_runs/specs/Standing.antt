-- The numbers of copies that stand around a part.
use Rattle.std.specs.Prelude.{ℕ, ◌<◌, ◌≤◌, List}
use Rattle.std.specs.List.{Contains}
use Rattle.sp_netlist.specs.Signals.{Signals}
use Rattle.sp_core.specs.PlainCore.{PlainNode, PlainCore}
use Rattle.sp_plan.specs.PlainPlan.{PlainPlan}
use Rattle.sp_machine.specs.Transfers.{Delays}
use Rattle.sp_node_runs.specs.Runs.{over_at}
use Rattle.sp_tree_runs.specs.BodiesScoped.{Scoped}
use Rattle.sp_tree_events.specs.CopiesStanding.{CopyNets, AreNumbered}

-- up to a cycle the numbers of the copies at hand in each run stand as long as it goes on
abbrev pub StandCopies : PlainCore → PlainPlan → Delays → Signals → PlainNode → (node n : ℕ) → List Scoped → (around : CopyNets) → (t : ℕ) → Type 0
StandCopies core plan delays s node k n qs around t = (q : Scoped) (u : ℕ) → Contains qs q → q.run.cycle ≤ u → u < over_at core plan delays node k n q.run → u ≤ t → AreNumbered s u around q.run.copies
