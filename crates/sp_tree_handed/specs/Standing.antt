-- How what a tree hands on stands in a draft: the nets of the accesses of its lists, and those of its owners.
use Rattle.std.specs.List.{Contains}
use Rattle.std.specs.Prelude.{◌≡◌, ◌≢◌, ℕ, ◌<◌, true, if◌then◌else◌, List, [], ◌∷◌, length, All, Some}
use Rattle.sp_words.specs.Types.{width_of}
use Rattle.sp_netlist.specs.Draft.{Draft}
use Rattle.sp_gates.specs.Grows.{Grows}
use Rattle.sp_gates.specs.Nets.{HasNet}
use Rattle.sp_words.specs.declared.kind.Kind.TheVariants.{ArgIn}
use Rattle.sp_core.specs.declared.operation.OpKind.TheVariants.{Read, Write}
use Rattle.sp_core.specs.Declarations.{mem, kind_of, dims}
use Rattle.sp_core.specs.Latency.{latency, read_latency}
use Rattle.sp_core.specs.PlainCore.{PlainOp, PlainNode, PlainCore}
use Rattle.sp_pipe.specs.Acts.{AreActs}
use Rattle.sp_part_runs.specs.ActsCircuits.{AreOpsOf}
use Rattle.sp_part_runs.specs.ActsEntries.{index_words, word_that_changes}
use Rattle.sp_circuit_ops.specs.declared.ops.WordNet.{WordNet}
use Rattle.sp_op_nets.specs.declared.acted.ActedList.{ActedList}
use Rattle.sp_op_nets.specs.Acted.{AnswersStand, AreAnsweredAfter}
use Rattle.sp_access_nets.specs.declared.access.AccessNets.{AccessNets}
use Rattle.sp_tree_handed.specs.declared.owners.Keeping.{Keeping}
use Rattle.sp_tree_handed.specs.declared.owners.LoopTurns.{LoopTurns}
use Rattle.sp_tree_handed.specs.declared.owners.OwnerNets.{OwnerNets}
use Rattle.sp_tree_handed.specs.declared.owners.Renewal.{Renewal}
use Rattle.sp_tree_handed.specs.declared.owners.TreeOwners.{TreeOwners}
use Rattle.sp_tree_handed.specs.Lists.{NumberedOps, lists_in}
use Rattle.sp_tree_handed.specs.Scalars.{IsInBanks}

-- the operations of a list as its circuit has them, from the number of its first one on: in some draft before, each access acts by nets of
-- its own where its group is issued, and each read or take is to be answered after its latency, or at once
pub record IsListStanding (d : Draft) (core : PlainCore) (list : NumberedOps) (a : ActedList) : Type 0 where
  pub draft : Draft
  pub grows : Grows draft d
  pub first : a.number ≡ list.number
  pub ops_of : AreOpsOf list.ops a.ops.items
  pub answers : AnswersStand draft a.ops.items
  pub after : AreAnsweredAfter (λ op. if list.at_once then 0 else latency core op) list.ops a.ops.items
  pub issue : ℕ
  pub acts : AreActs draft issue a.ops.items a.ops.items a.nets.items

-- list by list
abbrev pub AreListsStanding : Draft → PlainCore → List NumberedOps → List ActedList → Type 0
AreListsStanding d core [] [] = Unit {0}
AreListsStanding d core (list ∷ lists) (a ∷ acted) = IsListStanding d core list a × AreListsStanding d core lists acted
AreListsStanding d core [] (a ∷ acted) = ⊥
AreListsStanding d core (list ∷ lists) [] = ⊥

-- what stands at once reads arguments alone
abbrev pub BoundsReadArguments : PlainCore → PlainNode → Type 0
BoundsReadArguments core node =
    (list : NumberedOps) → Contains (lists_in node 0) list → list.at_once ≡ true → (op : PlainOp) (m : ℕ) → Contains list.ops op → op.kind ≡ Read → op.mem ≡ Some m → kind_of core m ≡ ArgIn

-- an access has its nets: a write that of its word, and what is answered that of the answer, each as wide as the memory's words; one of
-- a memory in banks has a net of 32 bits for its index in each dimension
pub record AccessStands (d : Draft) (core : PlainCore) (a : AccessNets) : Type 0 where
  pub enable : HasNet d a.enable 1
  pub some : a.kind ≡ Write → 0 < length a.operands.items
  pub word : a.kind ≡ Write → HasNet d (word_that_changes a.kind a.operands.items) (width_of (mem core a.mem).ty)
  pub answer : (w : WordNet) → a.answer ≡ Some w → HasNet d w.net (width_of (mem core a.mem).ty)
  pub later : (w : WordNet) → a.kind ≡ Read → a.answer ≡ Some w → kind_of core a.mem ≢ ArgIn → w.after ≡ read_latency (kind_of core a.mem)
  pub index : IsInBanks (kind_of core a.mem) → All (λ net. HasNet d net 32) (index_words a.kind a.operands.items)
  pub each_index : IsInBanks (kind_of core a.mem) → length (index_words a.kind a.operands.items) ≡ length (dims core a.mem)

-- so have owners
pub record KeepingStands (d : Draft) (core : PlainCore) (k : Keeping) : Type 0 where
  pub done : HasNet d k.done 1
  pub word : HasNet d k.word (width_of (mem core k.mem).ty)

-- and those of loops and FSMs as the tree hands them on
pub record TurnsStand (d : Draft) (turns : LoopTurns) : Type 0 where
  pub start : HasNet d turns.start 1
  pub firsts : All (λ net. HasNet d net 1) turns.firsts.items

pub record AreTurnsStanding (d : Draft) (core : PlainCore) (turns : List LoopTurns) (keepings : List Keeping) : Type 0 where
  pub turn : All (TurnsStand d) turns
  pub kept : All (KeepingStands d core) keepings

abbrev pub HandedStand : Draft → PlainCore → TreeOwners → Type 0
HandedStand d core owners = AreTurnsStanding d core owners.turns.items owners.kept.items

pub record AreOwnersStanding (d : Draft) (core : PlainCore) (renewals : List Renewal) (keepings : List Keeping) : Type 0 where
  pub renewed : All (λ (r : Renewal). HasNet d r.first 1) renewals
  pub kept : All (KeepingStands d core) keepings

abbrev pub OwnersStand : Draft → PlainCore → OwnerNets → Type 0
OwnersStand d core owners = AreOwnersStanding d core owners.renewed.items owners.kept.items
