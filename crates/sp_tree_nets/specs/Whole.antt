-- The circuit of a whole core, around which nothing stands.
use Rattle.std.specs.Prelude.{ℕ, ◌<◌, ◌^◌, List, [], Option}
use Rattle.sp_netlist.specs.declared.parts.Child.{Child}
use Rattle.sp_netlist.specs.Draft.{Draft}
use Rattle.sp_netlist.specs.Signals.{Signals}
use Rattle.sp_gates.specs.Runs.{RunsOn}
use Rattle.sp_core.specs.declared.access.Meet.{Meet}
use Rattle.sp_core.specs.Forms.{PlainForms}
use Rattle.sp_core.specs.PlainCore.{PlainCore}
use Rattle.sp_plan.specs.PlainPlan.{PlainPlan, node_plan}
use Rattle.sp_plan.specs.Validity.{IsValid}
use Rattle.sp_machine.specs.Timeline.{latency_of}
use Rattle.sp_overlap.specs.Whole.{IsTimed}
use Rattle.sp_op_nets.specs.declared.acted.ActedList.{ActedList}
use Rattle.sp_op_nets.specs.Table.{nets_at}
use Rattle.sp_tree_handed.specs.declared.owners.Keeping.{Keeping}
use Rattle.sp_tree_handed.specs.declared.owners.LoopTurns.{LoopTurns}
use Rattle.sp_tree_handed.specs.declared.moves.TreeMove.{TreeMove}
use Rattle.sp_tree_nets.specs.Emitted.{TreeIn}

-- a plan that is valid for some forms and meets of the core, whose latencies are numbers of 32 bits, and a tree without sparse transfers and `Stream` blocks
pub record HasTreePlan (core : PlainCore) (plan : PlainPlan) : Type 0 where
  pub forms : PlainForms
  pub meets : List Meet
  pub valid : IsValid core forms meets plan
  pub timed : IsTimed core.root
  pub latencies : (k : ℕ) → latency_of (node_plan plan k) < 2 ^ 32

-- in each run of what the draft becomes the core's tree has its circuit, by the operations, the owners' nets and the transfers that are handed on
abbrev pub IsWhole : Draft → PlainCore → PlainPlan → List (Option ℕ) → Child → List ActedList → List LoopTurns → List Keeping → List TreeMove → Type 0
IsWhole d core plan ends c acted turns kept moves = (s : Signals) → RunsOn s d.cells → TreeIn core plan s ends [] (nets_at []) core.root 0 0 c acted turns kept moves
