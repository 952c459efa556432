-- A law of control over trees of nodes, as a statement.
use Rattle.std.specs.Prelude.{ℕ, List}
use Rattle.sp_netlist.specs.declared.parts.Child.{Child}
use Rattle.sp_netlist.specs.Signals.{Signals}
use Rattle.sp_core.specs.PlainCore.{PlainNode, PlainCore}
use Rattle.sp_plan.specs.PlainPlan.{PlainPlan}
use Rattle.sp_machine.specs.Transfers.{Delays}
use Rattle.sp_overlap.specs.Whole.{IsTimed}
use Rattle.sp_node_runs.specs.Runs.{Placed, AreWithin}
use Rattle.sp_node_runs.specs.ControlLaws.{Does}
use Rattle.sp_node_runs.specs.ControlRuns.{rans}
use Rattle.sp_node_runs.specs.FitsLaws.{AllFit}
use Rattle.sp_tree_runs.specs.ControlTrees.{Controls}

-- where runs of a node come one after the other, and its circuit is put together so, it does them, up to a cycle
abbrev pub TreesDo : PlainCore → PlainPlan → Delays → Type 0
TreesDo core plan delays =
    (s : Signals) (last : ℕ) (node : PlainNode) (k n from until : ℕ) (runs : List Placed) (c : Child) → IsTimed node → AllFit core plan delays node runs → AreWithin core plan delays node k n from until runs
    → Controls core plan delays s last node k n runs c → Does s c (rans core plan delays node k n runs) last
