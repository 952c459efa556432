-- Laws of the accesses of a core's tree, around which nothing stands.
use Rattle.std.specs.Prelude.{◌≡◌, ◌≢◌, ◌⊎◌, ℕ, ◌<◌, true, List, [], length, Option, Some}
use Rattle.std.specs.List.{Contains}
use Rattle.sp_words.specs.declared.kind.Kind.TheVariants.{Fifo}
use Rattle.sp_netlist.specs.declared.parts.Child.{Child}
use Rattle.sp_netlist.specs.Draft.{Draft}
use Rattle.sp_netlist.specs.Signals.{Signals}
use Rattle.sp_core.specs.declared.operation.OpKind.{OpKind}
use Rattle.sp_core.specs.declared.operation.OpKind.TheVariants.{Read, Deq}
use Rattle.sp_core.specs.Declarations.{mem, kind_of}
use Rattle.sp_core.specs.Invariant.{IsCore}
use Rattle.sp_core.specs.OperationRules.{can}
use Rattle.sp_core.specs.PlainCore.{PlainCore}
use Rattle.sp_plan.specs.PlainPlan.{PlainPlan}
use Rattle.sp_machine.specs.Stamps.{Stamped}
use Rattle.sp_machine.specs.Transfers.{Delays}
use Rattle.sp_node_runs.specs.BodiesGiven.{Nets}
use Rattle.sp_node_runs.specs.BodiesTold.{ActsInTime}
use Rattle.sp_tree_runs.specs.BodiesScoped.{Scoped}
use Rattle.sp_circuit_ops.specs.declared.ops.WordNet.{WordNet}
use Rattle.sp_op_nets.specs.declared.acted.ActedList.{ActedList}
use Rattle.sp_access_nets.specs.declared.access.AccessNets.{AccessNets}
use Rattle.sp_tree_circuits.specs.Acts.{Acts}
use Rattle.sp_tree_circuits.specs.Answers.{Answered}
use Rattle.sp_tree_circuits.specs.Circuits.{Circuit}
use Rattle.sp_tree_handed.specs.Lists.{lists_in}
use Rattle.sp_tree_handed.specs.Scalars.{IsInBanks}
use Rattle.sp_tree_handed.specs.Standing.{AreListsStanding}
use Rattle.sp_tree_nets.specs.Handed.{AreHanded}
use Rattle.sp_memory_words.specs.Accesses.{IsOperation}
use Rattle.sp_memory_words.specs.Answers.{IsAnswered}
use Rattle.sp_tree_accesses.specs.Accesses.{AreAllAccesses}

-- these are the accesses of the lists of a right core, which stand in some draft
pub record AreTreeAccesses (core : PlainCore) (copy : (number : ℕ) → Option ℕ) (acted : List ActedList) (accesses : List AccessNets) : Type 0 where
  pub right : IsCore core
  pub draft : Draft
  pub stand : AreListsStanding draft core (lists_in core.root 0) acted
  pub all : AreAllAccesses copy (lists_in core.root 0) acted accesses

-- an access is of an operation of the core, which its memory allows, and names the net of its number's copy
pub record IsOfCore (core : PlainCore) (copy : (number : ℕ) → Option ℕ) (a : AccessNets) : Type 0 where
  pub is : IsOperation core a.mem a.kind a.number
  pub on_chip : a.mem < length core.mems
  pub allowed : can a.kind (kind_of core a.mem) (mem core a.mem).start ≡ true
  pub copied : a.copy ≡ copy a.number

-- so is each of them, whatever runs there are
abbrev pub AccessesAreOfCore : PlainCore → Type 0
AccessesAreOfCore core =
    (copy : (number : ℕ) → Option ℕ) (acted : List ActedList) (accesses : List AccessNets) → AreTreeAccesses core copy acted accesses → (a : AccessNets) → Contains accesses a → IsOfCore core copy a

-- what is answered reads a word, or takes one
abbrev pub AnswersAreOfReads : PlainCore → Type 0
AnswersAreOfReads core =
    (copy : (number : ℕ) → Option ℕ) (acted : List ActedList) (accesses : List AccessNets) → AreTreeAccesses core copy acted accesses
    → (a : AccessNets) (word : WordNet) → Contains accesses a → a.answer ≡ Some word → (a.kind ≡ Read) ⊎ (a.kind ≡ Deq)

-- words are taken from FIFOs alone, so what another memory answers is a read
abbrev pub ScalarsAreRead : PlainCore → Type 0
ScalarsAreRead core =
    (copy : (number : ℕ) → Option ℕ) (acted : List ActedList) (accesses : List AccessNets) → AreTreeAccesses core copy acted accesses
    → (a : AccessNets) (word : WordNet) → Contains accesses a → a.answer ≡ Some word → kind_of core a.mem ≢ Fifo → a.kind ≡ Read

-- Up to a cycle it acts at its operation's events. Bounds and slices have reads that act in every cycle, so of reads this is said of
-- those memories alone that bounds and slices don't read.
pub record IsInTime (core : PlainCore) (copy : (number : ℕ) → Option ℕ) (s : Signals) (events : List Stamped) (t : ℕ) (a : AccessNets) : Type 0 where
  pub of_core : IsOfCore core copy a
  pub acts : a.kind ≢ Read → ActsInTime s events t a.number a.kind a.enable a.operands.items
  pub in_banks : IsInBanks (kind_of core a.mem) → ActsInTime s events t a.number a.kind a.enable a.operands.items

abbrev pub AccessesAct : PlainCore → PlainPlan → Delays → Type 0
AccessesAct core plan delays =
    (s : Signals) (events : List Stamped) (t : ℕ) (qs : List Scoped) (env : Nets) (c : Child) (w : Circuit core plan s core.root [] env 0 c) (copy : (number : ℕ) → Option ℕ) (acted : List ActedList) (accesses : List AccessNets)
    → AreTreeAccesses core copy acted accesses → AreHanded core plan s core.root [] env 0 0 c w acted → Acts core plan delays s events t core.root [] env 0 0 qs c w
    → (a : AccessNets) → Contains accesses a → IsInTime core copy s events t a

-- the access of an operation
pub record HasAccess (accesses : List AccessNets) (m : ℕ) (kind : OpKind) (number : ℕ) : Type 0 where
  pub access : AccessNets
  pub there : Contains accesses access
  pub numbered : access.number ≡ number
  pub mem_is : access.mem ≡ m
  pub kind_is : access.kind ≡ kind

abbrev pub OperationsHaveAccesses : PlainCore → Type 0
OperationsHaveAccesses core =
    (copy : (number : ℕ) → Option ℕ) (acted : List ActedList) (accesses : List AccessNets) → AreTreeAccesses core copy acted accesses
    → (m n : ℕ) (kind : OpKind) → IsOperation core m kind n → HasAccess accesses m kind n

-- each access that has an answer is answered with the words of its operation's events
abbrev pub AreAccessesAnswered : Signals → List Stamped → (last : ℕ) → List AccessNets → Type 0
AreAccessesAnswered s events last accesses = (a : AccessNets) (word : WordNet) → Contains accesses a → a.answer ≡ Some word → IsAnswered s events last a.number a.kind word.after word.net

abbrev pub TreesAreAnswered : PlainCore → PlainPlan → Type 0
TreesAreAnswered core plan =
    (s : Signals) (events : List Stamped) (last : ℕ) (env : Nets) (c : Child) (w : Circuit core plan s core.root [] env 0 c) (copy : (number : ℕ) → Option ℕ) (acted : List ActedList) (accesses : List AccessNets)
    → AreTreeAccesses core copy acted accesses → AreHanded core plan s core.root [] env 0 0 c w acted → AreAccessesAnswered s events last accesses → Answered core plan s events last core.root [] env 0 0 c w
