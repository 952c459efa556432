-- Cores as plain values: without where their parts lie in memory.
use Rattle.std.specs.Prelude.{ℕ, Bool, false, List, [], Option, None}
use Rattle.sp_words.specs.declared.kind.Kind.{Kind}
use Rattle.sp_words.specs.declared.kind.Kind.TheVariants.{Reg}
use Rattle.sp_words.specs.declared.kind.Style.{Style}
use Rattle.sp_words.specs.declared.types.Ty.{Ty}
use Rattle.sp_words.specs.declared.types.Ty.TheVariants.{Bit}
use Rattle.sp_words.specs.Ports.{PlainPort, PlainPorts}
use Rattle.sp_core.specs.declared.node.SparseKind.{SparseKind}
use Rattle.sp_core.specs.declared.operation.OpKind.{OpKind}

-- an operation, by the type at which it is done, the places of its operands and of its mask in its list, and the memory
-- that it names
pub record PlainOp : Type 0 where
  pub kind : OpKind
  pub ty : Ty
  pub args : List ℕ
  pub mem : Option ℕ
  pub mask : Option ℕ

-- each list of operations that gives a word gives that of its last one
pub record PlainCounter : Type 0 where
  pub number : ℕ
  pub from : List PlainOp
  pub until : List PlainOp
  pub by : ℕ
  pub par : ℕ

-- what a slice takes of one dimension: one index, or those from the first up to the second
pub data PlainSpan : Type 0 where
  single : List PlainOp → PlainSpan
  range : (from until : List PlainOp) → PlainSpan

mutual
  pub data PlainNode : Type 0 where
    inner : List PlainCounter → (owned : List ℕ) → List PlainOp → (comb : Option ℕ) → PlainNode
    outer : List PlainCounter → Style → (owned : List ℕ) → PlainStages → PlainNode
    fsm : (start : List PlainOp) → (state : ℕ) → (test : List PlainOp) → PlainNode → (next : List PlainOp) → PlainNode
    branch : (test : List PlainOp) → (first second : PlainNode) → PlainNode
    load : (dram mem : ℕ) → List PlainSpan → PlainNode
    store : (dram mem : ℕ) → List PlainSpan → PlainNode
    sparse : SparseKind → (dram mem : ℕ) → (index : Option ℕ) → List PlainSpan → (count : List PlainOp) → (par : ℕ) → PlainNode

  -- each with its first and its last lane, and whether it is the combination of its loop
  pub data PlainStages : Type 0 where
    no_stage : PlainStages
    more_stage : (first last : ℕ) → (comb : Bool) → PlainNode → PlainStages → PlainStages

pub record PlainMem : Type 0 where
  pub name : List ℕ
  pub kind : Kind
  pub ty : Ty
  pub dims : List ℕ
  pub start : Option ℕ
  pub written : Bool

-- what has no declaration
abbrev pub no_mem : PlainMem
no_mem = record { name = []; kind = Reg; ty = Bit; dims = []; start = None; written = false }

abbrev pub no_port : PlainPort
no_port = record { name = []; ty = Bit; dims = [] }

-- memories stand at their numbers, DRAMs at theirs in the ports
pub record PlainCore : Type 0 where
  pub mems : List PlainMem
  pub ports : PlainPorts
  pub root : PlainNode
