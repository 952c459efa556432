-- Laws of the accesses of a list.
use Rattle.std.specs.Prelude.{◌≡◌, ℕ, ◌+◌, true, List, [], ◌∷◌, ◌++◌, Option, Some, None}
use Rattle.std.specs.List.{Contains}
use Rattle.sp_netlist.specs.Draft.{Draft}
use Rattle.sp_core.specs.Around.{Around}
use Rattle.sp_core.specs.OperationRules.{are_operations_right}
use Rattle.sp_core.specs.PlainCore.{PlainOp, PlainCore}
use Rattle.sp_pipe.specs.declared.part.PipeOp.{PipeOp}
use Rattle.sp_pipe.specs.Acts.{ActsAt}
use Rattle.sp_pipe.specs.Right.{IsAt}
use Rattle.sp_part_runs.specs.ActsCircuits.{AreOpsOf}
use Rattle.sp_part_runs.specs.ActsEntries.{IsOpAt}
use Rattle.sp_circuit_ops.specs.declared.ops.WordNet.{WordNet}
use Rattle.sp_op_nets.specs.Acted.{answers_of}
use Rattle.sp_access_nets.specs.declared.access.AccessNets.{AccessNets}
use Rattle.sp_access_nets.specs.Accesses.{AccessesNameMemories, IsAccessOf, AreAccesses}

-- where a list keeps the core's rules, just its accesses name memories
abbrev pub RulesNameMemories : Type 0
RulesNameMemories = (core : PlainCore) (around : Around) (ops : List PlainOp) (ps : List PipeOp) → are_operations_right core around ops ≡ true → AreOpsOf ops ps → AccessesNameMemories ops ps

-- the nets on which accesses are to be answered, in order
abbrev pub net_in : Option WordNet → List ℕ
net_in (Some word) = word.net ∷ []
net_in None = []

abbrev pub answer_nets : List AccessNets → List ℕ
answer_nets [] = []
answer_nets (a ∷ accesses) = net_in a.answer ++ answer_nets accesses

-- these are the nets that the list reserved
abbrev pub ReservedAreAnswers : Type 0
ReservedAreAnswers =
    (copy : (number : ℕ) → Option ℕ) (d : Draft) (issue : ℕ) (all : List PipeOp) (n : ℕ) (ops : List PlainOp) (ps : List PipeOp) (accesses : List AccessNets) → AreAccesses copy d issue all n ops ps accesses
    → answers_of ps ≡ answer_nets accesses

-- the access of the operation at a place, as its circuit has it
pub record IsAccessAt (copy : (number : ℕ) → Option ℕ) (d : Draft) (issue : ℕ) (all : List PipeOp) (n : ℕ) (ps : List PipeOp) (k : ℕ) (op : PlainOp) (a : AccessNets) : Type 0 where
  pub placed : PipeOp
  pub at : IsAt ps k placed
  pub of_op : IsAccessOf copy (n + k) op placed a
  pub acts : ActsAt d issue all placed a.enable a.operands.items

-- each operation that names a memory has an access in the list
abbrev pub EachHasAccess : Type 0
EachHasAccess =
    (copy : (number : ℕ) → Option ℕ) (d : Draft) (issue : ℕ) (all : List PipeOp) (n : ℕ) (ops : List PlainOp) (ps : List PipeOp) (accesses : List AccessNets) → AreAccesses copy d issue all n ops ps accesses
    → (k : ℕ) (op : PlainOp) (m : ℕ) → IsOpAt ops k op → op.mem ≡ Some m → (a : AccessNets) × Contains accesses a × IsAccessAt copy d issue all n ps k op a

-- and each access in the list is of such an operation
abbrev pub EachIsOfOperation : Type 0
EachIsOfOperation =
    (copy : (number : ℕ) → Option ℕ) (d : Draft) (issue : ℕ) (all : List PipeOp) (n : ℕ) (ops : List PlainOp) (ps : List PipeOp) (accesses : List AccessNets) → AreAccesses copy d issue all n ops ps accesses
    → (a : AccessNets) → Contains accesses a → (k : ℕ) × (op : PlainOp) × IsOpAt ops k op × IsAccessAt copy d issue all n ps k op a
