-- Operations of a list at their times, each of which is answered after its latency.
use Rattle.std.specs.Prelude.{◌≡◌, ℕ, true, List, slice_index}
use Rattle.sp_netlist.specs.Draft.{Draft}
use Rattle.sp_gates.specs.Nets.{HasNet}
use Rattle.sp_core.specs.declared.operation.Op.{Op}
use Rattle.sp_core.specs.Around.{Around}
use Rattle.sp_core.specs.Latency.{latency}
use Rattle.sp_core.specs.OperationRules.{are_operations_right}
use Rattle.sp_core.specs.Plain.{plain_ops}
use Rattle.sp_core.specs.PlainCore.{PlainOp, PlainCore}
use Rattle.sp_pipe.specs.declared.part.PipeOp.{PipeOp}
use Rattle.sp_part_runs.specs.ActsCircuits.{AreOpsOf}
use Rattle.sp_part_runs.specs.ActsEntries.{IsOpAt}
use Rattle.sp_circuit_ops.specs.declared.ops.WordNet.{WordNet}
use Rattle.sp_circuit_ops.specs.Circuit.{ArePlaced}
use Rattle.sp_op_nets.specs.declared.acted.ActedList.{ActedList}
use Rattle.sp_op_nets.specs.declared.table.AroundNets.{AroundNets}
use Rattle.sp_op_nets.specs.Acted.{IsActed, AnswersStand, AreAnsweredAfter}
use Rattle.sp_op_nets.specs.Nets.{AreNetsOf}
use Rattle.sp_op_nets.specs.Table.{StandAround}

-- a core has operations right by what stands around them, and the counters around stand in the table
pub record AreRightHere (d : Draft) (core : PlainCore) (table : List AroundNets) (ops : List PlainOp) : Type 0 where
  pub around : Around
  pub right : are_operations_right core around ops ≡ true
  pub stand : StandAround d table around.counters

-- each operation is at its time, with its net, and its answer comes after its latency
pub record AreTimed (d : Draft) (core : PlainCore) (table : List AroundNets) (ops : List Op) (times : List ℕ) (ps : List PipeOp) : Type 0 where
  pub afters : List ℕ
  pub nets : List WordNet
  pub nets_of : AreNetsOf d table (plain_ops ops) afters nets
  pub placed : ArePlaced ops times nets ps
  pub late : (k : ℕ) (op : PlainOp) → IsOpAt (plain_ops ops) k op → slice_index afters k ≡ latency core op

-- operations of a core as their circuit has them, from the number of the first one on, with the net that is 1 where they are issued:
-- each is answered after its latency, on a net of its own
pub record IsIssuedList (d : Draft) (core : PlainCore) (number : ℕ) (ops : List PlainOp) (a : ActedList) : Type 0 where
  pub issue : ℕ
  pub net : HasNet d issue 1
  pub ops_of : AreOpsOf ops a.ops.items
  pub acts : IsActed d issue number a.ops.items a
  pub answers : AnswersStand d a.ops.items
  pub after : AreAnsweredAfter (latency core) ops a.ops.items
