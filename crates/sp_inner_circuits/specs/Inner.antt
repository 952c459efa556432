-- The circuit of an inner body.
use Rattle.std.specs.Prelude.{◌≡◌, ℕ, ◌+◌, true, List, [], ◌∷◌, ◌++◌, length, slice_index, Option}
use Rattle.sp_netlist.specs.declared.parts.Child.{Child}
use Rattle.sp_netlist.specs.Draft.{Draft}
use Rattle.sp_netlist.specs.Signals.{Signals}
use Rattle.sp_gates.specs.Runs.{RunsOn}
use Rattle.sp_core.specs.Around.{Around, Near}
use Rattle.sp_core.specs.NodeRules.{is_node_right}
use Rattle.sp_core.specs.Numbering.{counters_size}
use Rattle.sp_core.specs.PlainCore.{PlainOp, PlainCounter, inner, PlainCore}
use Rattle.sp_circuit_ops.specs.Fitting.{LeaveTime}
use Rattle.sp_machine.specs.Timeline.{times_of}
use Rattle.sp_node_runs.specs.Bodies.{IsPaced}
use Rattle.sp_node_runs.specs.BodiesGiven.{Nets}
use Rattle.sp_op_nets.specs.declared.acted.ActedList.{ActedList}
use Rattle.sp_op_nets.specs.declared.table.AroundNets.{AroundNets}
use Rattle.sp_op_nets.specs.Acted.{IsActed}
use Rattle.sp_op_nets.specs.Table.{nets_at, StandAround}
use Rattle.sp_pipe.specs.declared.part.PipeOp.{PipeOp}
use Rattle.sp_plan.specs.PlainPlan.{PlainNodePlan, PlainPlan, node_plan}
use Rattle.sp_tree_circuits.specs.Parts.{Issued, InnerCircuit}
use Rattle.sp_list_circuits.specs.Timed.{IsIssuedList}
use Rattle.sp_bound_nets.specs.Bounds.{BoundsActed, bound_lists}
use Rattle.sp_bound_nets.specs.Direct.{AreActedLists}

-- a plan has a time for each operation, by which each word comes before it is used, and groups are apart
pub record IsPlanned (core : PlainCore) (ops : List PlainOp) (p : PlainNodePlan) : Type 0 where
  pub many : length (times_of p) ≡ length ops
  pub paced : IsPaced core ops p
  pub leave : LeaveTime core ops (slice_index (times_of p))

-- a core has the body right by what stands around it, and the counters around stand in the table
pub record IsInnerRight (d : Draft) (core : PlainCore) (table : List AroundNets) (counters : List PlainCounter) (ops : List PlainOp) : Type 0 where
  pub around : Around
  pub owned : List ℕ
  pub comb : Option ℕ
  pub right : is_node_right core around (inner counters owned ops comb) ≡ true
  pub stand : StandAround d table around.counters

-- what is handed on of a body, whether or not a run is known: the operations of the bounds of its counters, and then its own
pub record IsInnerActed (d : Draft) (core : PlainCore) (number : ℕ) (counters : List PlainCounter) (ops : List PlainOp) (acted : List ActedList) : Type 0 where
  pub bounds : List ActedList
  pub own : ActedList
  pub are : acted ≡ bounds ++ own ∷ []
  pub of_bounds : AreActedLists d number (bound_lists counters) bounds
  pub of_own : IsIssuedList d core (number + counters_size counters) ops own

module _ (core : PlainCore) (plan : PlainPlan) (s : Signals) (near : List Near) (env : Nets) where
  -- the operations of the bounds of its counters are those that are handed on
  abbrev pub BoundsOf : (k number : ℕ) (counters : List PlainCounter) (ops : List PlainOp) (ps : List PipeOp) (issue : ℕ) (c : Child) → Issued core plan s near env k counters ops ps issue c → List ActedList → Type 0
  BoundsOf k n [] ops ps issue c w acted = acted ≡ []
  BoundsOf k n (x ∷ counters) ops ps issue c w acted = BoundsActed core plan s near env w.draft n (x ∷ counters) w.part.counters.items w.bounds acted

  -- in a run the body issues its groups, by the operations that are handed on: those of its bounds, and then its own
  pub record InnerIn (k number : ℕ) (counters : List PlainCounter) (ops : List PlainOp) (child : Child) (acted : List ActedList) : Type 0 where
    pub circuit : InnerCircuit core plan s near env k counters ops child
    pub bounds : List ActedList
    pub own : ActedList
    pub are : acted ≡ bounds ++ own ∷ []
    pub of_bounds : BoundsOf k number counters ops circuit.ps circuit.issue child circuit.issued bounds
    pub of_own : IsActed circuit.draft circuit.issue (number + counters_size counters) circuit.ps own

-- so it does in each run of what the draft became, as the node of each plan that says this of it, whatever stands around it by which
-- the core has it right
abbrev pub IsInner : (old new : Draft) → PlainCore → List AroundNets → PlainNodePlan → (number : ℕ) → List PlainCounter → List PlainOp → Child → List ActedList → Type 0
IsInner old new core table p number counters ops child acted =
    (plan : PlainPlan) (k : ℕ) (around : Around) (owned : List ℕ) (comb : Option ℕ) → node_plan plan k ≡ p → is_node_right core around (inner counters owned ops comb) ≡ true → StandAround old table around.counters
    → (s : Signals) → RunsOn s new.cells → InnerIn core plan s around.counters (nets_at table) k number counters ops child acted
