-- The circuit of a list of operations that are done one after the other.
use Rattle.std.specs.Prelude.{◌≡◌, ℕ, true, List}
use Rattle.sp_words.specs.declared.types.Ty.{Ty}
use Rattle.sp_netlist.specs.declared.parts.Child.{Child}
use Rattle.sp_netlist.specs.Draft.{Draft}
use Rattle.sp_netlist.specs.Signals.{Signals}
use Rattle.sp_gates.specs.Runs.{RunsOn}
use Rattle.sp_core.specs.Around.{Around, Near}
use Rattle.sp_core.specs.OperationRules.{are_operations_right, is_word_list}
use Rattle.sp_core.specs.PlainCore.{PlainOp, PlainCore}
use Rattle.sp_plan.specs.PlainPlan.{PlainPlan}
use Rattle.sp_node_runs.specs.BodiesGiven.{Nets}
use Rattle.sp_op_nets.specs.declared.acted.ActedList.{ActedList}
use Rattle.sp_op_nets.specs.declared.table.AroundNets.{AroundNets}
use Rattle.sp_op_nets.specs.Acted.{IsActed}
use Rattle.sp_op_nets.specs.Table.{nets_at, StandAround}
use Rattle.sp_tree_circuits.specs.Parts.{ListCircuit}

-- a core has a list right that gives a word of the type, by what stands around it, and the counters around stand in the table
pub record IsWordRight (d : Draft) (core : PlainCore) (table : List AroundNets) (ops : List PlainOp) (ty : Ty) : Type 0 where
  pub around : Around
  pub right : is_word_list core around ops ty ≡ true
  pub stand : StandAround d table around.counters

-- in a run the list goes through its operations in turn, by those that are handed on
pub record TurnsIn (core : PlainCore) (plan : PlainPlan) (s : Signals) (near : List Near) (env : Nets) (number : ℕ) (ops : List PlainOp) (child : Child) (word : ℕ) (a : ActedList) : Type 0 where
  pub circuit : ListCircuit core plan s near env ops child word
  pub acted : IsActed circuit.draft circuit.issue number circuit.ps a

-- so it does in each run of what the draft became, whatever stands around it by which the core has the list right
abbrev pub IsInTurns : (old new : Draft) → PlainCore → List AroundNets → (number : ℕ) → List PlainOp → Child → (word : ℕ) → ActedList → Type 0
IsInTurns old new core table number ops child word a =
    (plan : PlainPlan) (around : Around) → are_operations_right core around ops ≡ true → StandAround old table around.counters
    → (s : Signals) → RunsOn s new.cells → TurnsIn core plan s around.counters (nets_at table) number ops child word a
