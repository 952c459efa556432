-- The net on which the word of a list stands in the cycle itself, where all that it reads is answered at once.
use Rattle.std.specs.Prelude.{◌≡◌, ℕ, ◌+◌, true, List, [], ◌∷◌, length, slice_index}
use Rattle.sp_words.specs.Types.{int_type}
use Rattle.sp_netlist.specs.Draft.{Draft}
use Rattle.sp_netlist.specs.Signals.{Signals}
use Rattle.sp_gates.specs.Bits.{IsOne}
use Rattle.sp_gates.specs.Runs.{RunsOn}
use Rattle.sp_core.specs.declared.operation.Op.{Op}
use Rattle.sp_core.specs.Around.{Around, Near}
use Rattle.sp_core.specs.OperationRules.{are_operations_right, is_word_list}
use Rattle.sp_core.specs.Plain.{plain_ops}
use Rattle.sp_core.specs.PlainCore.{PlainOp, PlainCore}
use Rattle.sp_pipe.specs.declared.part.PipeOp.{PipeOp}
use Rattle.sp_plan.specs.PlainPlan.{PlainPlan}
use Rattle.sp_part_runs.specs.ActsCircuits.{AreOpsOf}
use Rattle.sp_circuit_ops.specs.declared.ops.WordNet.{WordNet}
use Rattle.sp_circuit_ops.specs.Circuit.{ArePlaced}
use Rattle.sp_node_runs.specs.BodiesGiven.{Nets}
use Rattle.sp_op_nets.specs.declared.acted.ActedList.{ActedList}
use Rattle.sp_op_nets.specs.declared.table.AroundNets.{AroundNets}
use Rattle.sp_op_nets.specs.Acted.{IsActed, AnswersStand, AreAnsweredAfter}
use Rattle.sp_op_nets.specs.Nets.{AreNetsOf}
use Rattle.sp_op_nets.specs.Table.{nets_at, StandAround}
use Rattle.sp_tree_circuits.specs.Parts.{DirectNet}

-- some core has the list right, with an `Int` as its word, and the counters around it stand in the table
pub record IsWordRight (d : Draft) (table : List AroundNets) (ops : List PlainOp) : Type 0 where
  pub core : PlainCore
  pub around : Around
  pub right : is_word_list core around ops int_type ≡ true
  pub stand : StandAround d table around.counters

-- operations that are all done where they are issued, with their nets: each answer comes in the cycle itself
pub record AreAtOnce (d : Draft) (table : List AroundNets) (ops : List Op) (ps : List PipeOp) : Type 0 where
  pub zeros : List ℕ
  pub nets : List WordNet
  pub each_zero : (k : ℕ) → slice_index zeros k ≡ 0
  pub nets_of : AreNetsOf d table (plain_ops ops) zeros nets
  pub placed : ArePlaced ops zeros nets ps

-- a list as its circuit has it, which is issued in every cycle
pub record IsAlwaysActed (d : Draft) (number : ℕ) (ps : List PipeOp) (a : ActedList) : Type 0 where
  pub issue : ℕ
  pub always : IsOne d issue
  pub acted : IsActed d issue number ps a

-- so it is for the operations of a core's list, each of which is answered in the cycle itself, on a net of its own
pub record IsActedList (d : Draft) (number : ℕ) (ops : List PlainOp) (a : ActedList) : Type 0 where
  pub ops_of : AreOpsOf ops a.ops.items
  pub acts : IsAlwaysActed d number a.ops.items a
  pub answers : AnswersStand d a.ops.items
  pub at_once : AreAnsweredAfter (λ op. 0) ops a.ops.items

-- and for lists one after the other, numbered in order
abbrev pub AreActedLists : Draft → (number : ℕ) → List (List PlainOp) → List ActedList → Type 0
AreActedLists d n [] [] = Unit {0}
AreActedLists d n (ops ∷ lists) (a ∷ acted) = IsActedList d n ops a × AreActedLists d (n + length ops) lists acted
AreActedLists d n [] (a ∷ acted) = ⊥
AreActedLists d n (ops ∷ lists) [] = ⊥

-- in a run the net has the list's word in each cycle, by the operations that are handed on
pub record DirectIn (core : PlainCore) (plan : PlainPlan) (s : Signals) (near : List Near) (env : Nets) (d : Draft) (number : ℕ) (ops : List PlainOp) (net : ℕ) (a : ActedList) : Type 0 where
  pub circuit : DirectNet core plan s near env d ops net
  pub acts : IsAlwaysActed d number circuit.ps a

-- so it is in each run of what the draft became, for each core that has the list right where its counters stood
abbrev pub IsDirect : (old new : Draft) → List AroundNets → (number : ℕ) → List PlainOp → (net : ℕ) → ActedList → Type 0
IsDirect old new table number ops net a =
    (core : PlainCore) (plan : PlainPlan) (around : Around) → are_operations_right core around ops ≡ true → StandAround old table around.counters
    → (s : Signals) → RunsOn s new.cells → DirectIn core plan s around.counters (nets_at table) new number ops net a
