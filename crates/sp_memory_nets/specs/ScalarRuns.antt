-- What the circuit of a memory of one word does in a run.
use Rattle.std.specs.Prelude.{◌≡◌, ◌≢◌, ℕ, suc, ◌≤◌, List, map, slice_index, Some}
use Rattle.std.specs.List.{Contains}
use Rattle.sp_words.specs.declared.kind.Kind.TheVariants.{ArgIn}
use Rattle.sp_netlist.specs.Signals.{Signals}
use Rattle.sp_core.specs.Declarations.{mem, kind_of}
use Rattle.sp_core.specs.PlainCore.{PlainCore}
use Rattle.sp_plan.specs.PlainPlan.{PlainPlan, mem_plan}
use Rattle.sp_mem.specs.declared.part.Register.{Register}
use Rattle.sp_mem.specs.declared.part.Touch.{Touch}
use Rattle.sp_mem.specs.Runs.{RunsRegister}
use Rattle.sp_circuit_ops.specs.declared.ops.WordNet.{WordNet}
use Rattle.sp_access_nets.specs.declared.access.AccessNets.{AccessNets}
use Rattle.sp_tree_handed.specs.declared.owners.OwnerNets.{OwnerNets}
use Rattle.sp_memory_nets.specs.ScalarLists.{plain_touch, writes_to, fresh_to, reads_to}

-- the register of a memory, in as many copies as the plan has: to it is done just what accesses and owners do to the memory
pub record IsPartOf (core : PlainCore) (plan : PlainPlan) (accesses : List AccessNets) (owners : OwnerNets) (m : ℕ) (part : Register) : Type 0 where
  pub ty : part.ty ≡ (mem core m).ty
  pub copies : part.copies ≡ (mem_plan plan m).depth
  pub first : part.first ≡ (mem core m).start
  pub fresh : part.fresh.items ≡ fresh_to core m accesses owners
  pub writes : map plain_touch part.writes.items ≡ writes_to m accesses owners
  pub reads : map plain_touch part.reads.items ≡ reads_to m accesses

-- a circuit of that register has the word of each copy on a net, that of copy 0 on this one
pub record RunsWord (core : PlainCore) (plan : PlainPlan) (s : Signals) (accesses : List AccessNets) (owners : OwnerNets) (m net : ℕ) : Type 0 where
  pub part : Register
  pub nets : List ℕ
  pub is : IsPartOf core plan accesses owners m part
  pub some : 1 ≤ part.copies
  pub first : net ≡ slice_index nets 0
  pub runs : RunsRegister s part nets

-- a reader has a cycle later the word that a net has
abbrev pub Follows : Signals → (net : ℕ) → Touch → Type 0
Follows s net r = (t : ℕ) → s.net (suc t) r.word ≡ s.net t net

-- so has each access to a memory that is to be answered
abbrev pub IsFollowed : Signals → List AccessNets → (mem net : ℕ) → Type 0
IsFollowed s accesses m net = (a : AccessNets) (w : WordNet) → Contains accesses a → a.mem ≡ m → a.answer ≡ Some w → (t : ℕ) → s.net (suc t) w.net ≡ s.net t net

-- The word of a memory is on a net: that of an argument on its port, that of any other in a register, in its copy 0.
pub data RunsScalar (core : PlainCore) (plan : PlainPlan) (s : Signals) (accesses : List AccessNets) (owners : OwnerNets) (port m net : ℕ) : Type 0 where
  an_argument : kind_of core m ≡ ArgIn → net ≡ port → IsFollowed s accesses m port → RunsScalar core plan s accesses owners port m net
  a_register : kind_of core m ≢ ArgIn → RunsWord core plan s accesses owners m net → RunsScalar core plan s accesses owners port m net
