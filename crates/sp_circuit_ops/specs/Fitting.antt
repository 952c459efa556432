-- When operations of a core, as those of a circuit, may be emitted: a law, as a statement.
use Rattle.std.specs.Prelude.{◌≡◌, ℕ, ◌+◌, ◌<◌, ◌≤◌, ◌^◌, ◌⊎◌, true, List, Some}
use Rattle.std.specs.List.{Contains}
use Rattle.sp_words.specs.Types.{width_of}
use Rattle.sp_netlist.specs.Draft.{Draft}
use Rattle.sp_gates.specs.Nets.{HasNet}
use Rattle.sp_core.specs.Around.{Around}
use Rattle.sp_core.specs.Latency.{latency}
use Rattle.sp_core.specs.OperationRules.{are_operations_right}
use Rattle.sp_core.specs.PlainCore.{PlainOp, PlainCore}
use Rattle.sp_pipe.specs.declared.part.PipeOp.{PipeOp}
use Rattle.sp_pipe.specs.Right.{IsAt, OpsFit}
use Rattle.sp_part_runs.specs.ActsCircuits.{AreOpsOf, is_given, is_answered, net_of, answer_of}
use Rattle.sp_part_runs.specs.ActsEntries.{IsOpAt}

-- the net of an operation stands, as wide as its word, and an answer comes no more than so many cycles after the access
pub record NetStands (d : Draft) (op : PlainOp) (p : PipeOp) (wait : ℕ) : Type 0 where
  pub given : is_given p.act ≡ true → HasNet d (net_of p.act) (width_of op.ty)
  pub answered : is_answered p.act ≡ true → HasNet d (net_of p.act) (width_of op.ty)
  pub early : is_answered p.act ≡ true → answer_of p.act ≤ wait

-- so it is where an answer comes no later than the operation's latency says
pub record NetFits (core : PlainCore) (d : Draft) (op : PlainOp) (p : PipeOp) : Type 0 where
  pub given : is_given p.act ≡ true → HasNet d (net_of p.act) (width_of op.ty)
  pub answered : is_answered p.act ≡ true → HasNet d (net_of p.act) (width_of op.ty)
  pub early : is_answered p.act ≡ true → answer_of p.act ≤ latency core op

-- an operation takes the word of another one, or has it as its mask
abbrev pub IsUsed : PlainOp → (place : ℕ) → Type 0
IsUsed op i = Contains op.args i ⊎ (op.mask ≡ Some i)

-- a use comes when the word is there, by how many cycles each answer is awaited, and no time passes 32 bits
pub record LeaveCycles (ops : List PlainOp) (time wait : ℕ → ℕ) : Type 0 where
  pub uses : (k i : ℕ) (op used : PlainOp) → IsOpAt ops k op → IsOpAt ops i used → IsUsed op i → time i + wait i ≤ time k
  pub small : (k : ℕ) (op : PlainOp) → IsOpAt ops k op → time k + wait k < 2 ^ 32

-- so it is where each answer is awaited for the operation's latency
pub record LeaveTime (core : PlainCore) (ops : List PlainOp) (time : ℕ → ℕ) : Type 0 where
  pub uses : (k i : ℕ) (op used : PlainOp) → IsOpAt ops k op → IsOpAt ops i used → IsUsed op i → time i + latency core used ≤ time k
  pub small : (k : ℕ) (op : PlainOp) → IsOpAt ops k op → time k + latency core op < 2 ^ 32

abbrev pub OperationsFit : Type 0
OperationsFit =
    (core : PlainCore) (around : Around) (d : Draft) (ops : List PlainOp) (ps : List PipeOp) (time : ℕ → ℕ) → are_operations_right core around ops ≡ true → AreOpsOf ops ps
    → ((k : ℕ) (p : PipeOp) → IsAt ps k p → p.time ≡ time k) → ((k : ℕ) (op : PlainOp) (p : PipeOp) → IsOpAt ops k op → IsAt ps k p → NetFits core d op p) → LeaveTime core ops time
    → OpsFit d ps

-- by how many cycles each answer is awaited, whatever the core's latencies are
abbrev pub AwaitedOperationsFit : Type 0
AwaitedOperationsFit =
    (core : PlainCore) (around : Around) (d : Draft) (ops : List PlainOp) (ps : List PipeOp) (time wait : ℕ → ℕ) → are_operations_right core around ops ≡ true → AreOpsOf ops ps
    → ((k : ℕ) (p : PipeOp) → IsAt ps k p → p.time ≡ time k) → ((k : ℕ) (op : PlainOp) (p : PipeOp) → IsOpAt ops k op → IsAt ps k p → NetStands d op p (wait k)) → LeaveCycles ops time wait
    → OpsFit d ps
