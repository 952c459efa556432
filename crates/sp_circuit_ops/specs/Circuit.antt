-- Operations of a core's list as those of a circuit, each at its time and with its net.
use Rattle.std.specs.Prelude.{◌≡◌, ℕ, true, List, slice_index}
use Rattle.sp_core.specs.declared.operation.Op.{Op}
use Rattle.sp_core.specs.Plain.{plain_op, plain_ops}
use Rattle.sp_pipe.specs.declared.part.PipeOp.{PipeOp}
use Rattle.sp_pipe.specs.Right.{IsAt}
use Rattle.sp_part_runs.specs.ActsCircuits.{IsOpOf, AreOpsOf, is_given, is_answered, net_of, answer_of}
use Rattle.sp_circuit_ops.specs.declared.ops.WordNet.{WordNet}
use Rattle.sp_circuit_ops.specs.Nets.{net_at, after_at}

-- an operation at a time, with its net
pub record IsPlacedOp (op : Op) (time : ℕ) (net after : ℕ) (p : PipeOp) : Type 0 where
  pub is_of : IsOpOf (plain_op op) p
  pub when : p.time ≡ time
  pub given : is_given p.act ≡ true → net_of p.act ≡ net
  pub answered : is_answered p.act ≡ true → net_of p.act ≡ net
  pub later : is_answered p.act ≡ true → answer_of p.act ≡ after

-- so is each operation of a list
pub record ArePlaced (ops : List Op) (times : List ℕ) (nets : List WordNet) (ps : List PipeOp) : Type 0 where
  pub ops_of : AreOpsOf (plain_ops ops) ps
  pub when : (k : ℕ) (p : PipeOp) → IsAt ps k p → p.time ≡ slice_index times k
  pub given : (k : ℕ) (p : PipeOp) → IsAt ps k p → is_given p.act ≡ true → net_of p.act ≡ net_at nets k
  pub answered : (k : ℕ) (p : PipeOp) → IsAt ps k p → is_answered p.act ≡ true → net_of p.act ≡ net_at nets k
  pub later : (k : ℕ) (p : PipeOp) → IsAt ps k p → is_answered p.act ≡ true → answer_of p.act ≡ after_at nets k
