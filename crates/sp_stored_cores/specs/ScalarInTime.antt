-- The memories of a core over the timeline of a run: accesses and owners do what the timeline has, up to a cycle, so registers hold what
-- stands at their places, and each read of a memory of one word is answered.
use Rattle.std.specs.Prelude.{◌≡◌, ◌≢◌, ◌⊎◌, ℕ, suc, ◌+◌, ◌<◌, ◌≤◌, true, List, length, slice_index, slice_index_or, All, Some}
use Rattle.std.specs.List.{Contains}
use Rattle.sp_words.specs.declared.kind.Kind.TheVariants.{Fifo, ArgIn, ArgOut}
use Rattle.sp_words.specs.Ports.{PlainInput}
use Rattle.sp_netlist.specs.Draft.{Draft}
use Rattle.sp_netlist.specs.Signals.{Signals}
use Rattle.sp_gates.specs.Tested.{is_on}
use Rattle.sp_core.specs.declared.operation.OpKind.{OpKind}
use Rattle.sp_core.specs.declared.operation.OpKind.TheVariants.{Read, Deq}
use Rattle.sp_core.specs.Declarations.{kind_of}
use Rattle.sp_core.specs.Events.{Event, renews, keeps}
use Rattle.sp_core.specs.Invariant.{IsCore}
use Rattle.sp_core.specs.Meaning.{first_store}
use Rattle.sp_core.specs.OperationRules.{is_access}
use Rattle.sp_core.specs.PlainCore.{PlainCore}
use Rattle.sp_core.specs.Store.{words_of}
use Rattle.sp_plan.specs.PlainPlan.{PlainPlan}
use Rattle.sp_time.specs.Events.{after}
use Rattle.sp_time.specs.Lists.{Each}
use Rattle.sp_time.specs.Places.{is_place}
use Rattle.sp_machine.specs.Found.{events_of, does, one_cell}
use Rattle.sp_machine.specs.InOrder.{is_done}
use Rattle.sp_machine.specs.Stamps.{Stamped}
use Rattle.sp_contents.specs.Found.{first_contents}
use Rattle.sp_mem.specs.Copies.{copy_at}
use Rattle.sp_circuit_ops.specs.declared.ops.WordNet.{WordNet}
use Rattle.sp_node_runs.specs.BodiesTold.{Happens, ActsInTime}
use Rattle.sp_memory_words.specs.Accesses.{IsOperation}
use Rattle.sp_memory_words.specs.Answers.{IsAnswered, NamesCopies}
use Rattle.sp_memory_words.specs.Moments.{IsAt, HappensWell}
use Rattle.sp_memory_words.specs.Registers.{copy_place, standing, HasWord, IsRegisterOf}
use Rattle.sp_access_nets.specs.declared.access.AccessNets.{AccessNets}
use Rattle.sp_tree_handed.specs.declared.owners.Keeping.{Keeping}
use Rattle.sp_tree_handed.specs.declared.owners.OwnerNets.{OwnerNets}
use Rattle.sp_tree_handed.specs.declared.owners.Renewal.{Renewal}
use Rattle.sp_tree_handed.specs.Scalars.{IsScalar, IsInBanks}
use Rattle.sp_tree_handed.specs.Standing.{AccessStands}
use Rattle.sp_memory_nets.specs.ScalarRuns.{RunsWord, RunsScalar}

-- Owners do what the timeline has them do, at the copy whose number stands on their net, and all of it. Where a memory has a reset its loops
-- make it fresh; any other one is left alone.
pub record OwnersInTime (core : PlainCore) (s : Signals) (events : List Stamped) (last : ℕ) (owners : OwnerNets) : Type 0 where
  pub renewal : (r : Renewal) → Contains owners.renewed.items r → (t : ℕ) → t ≤ last → is_on s r.first t ≡ true → IsAt events t (copy_at s t r.copy) (renews r.mem)
  pub keeping : (k : Keeping) → Contains owners.kept.items k → (t : ℕ) → t ≤ last → is_on s k.done t ≡ true → IsAt events t (copy_at s t k.copy) (keeps k.mem (s.net t k.word))
  pub all_renewals : (t c m : ℕ) → t ≤ last → IsAt events t c (renews m) → is_done core (renews m) ≡ true → (r : Renewal) × Contains owners.renewed.items r × (r.mem ≡ m) × (is_on s r.first t ≡ true) × (copy_at s t r.copy ≡ c)
  pub all_keepings : (t c m word : ℕ) → t ≤ last → IsAt events t c (keeps m word) → (k : Keeping) × Contains owners.kept.items k × (k.mem ≡ m) × (is_on s k.done t ≡ true) × (copy_at s t k.copy ≡ c)

-- Accesses are those of the core's operations, and all of them. They act at their operations' events, but for reads of memories that bounds
-- and slices read, too. Each names the copy of its operation's events; and what is answered is a read, or takes a word from a FIFO.
pub record MemoriesInTime (core : PlainCore) (s : Signals) (events : List Stamped) (last : ℕ) (accesses : List AccessNets) (owners : OwnerNets) : Type 0 where
  pub right : IsCore core
  pub is_operation : (a : AccessNets) → Contains accesses a → IsOperation core a.mem a.kind a.number
  pub all_operations : (m n : ℕ) (kind : OpKind) → is_access kind ≡ true → IsOperation core m kind n → (a : AccessNets) × Contains accesses a × (a.number ≡ n) × (a.mem ≡ m) × (a.kind ≡ kind)
  pub act : (a : AccessNets) → Contains accesses a → a.kind ≢ Read → ActsInTime s events last a.number a.kind a.enable a.operands.items
  pub in_banks : (a : AccessNets) → Contains accesses a → IsInBanks (kind_of core a.mem) → ActsInTime s events last a.number a.kind a.enable a.operands.items
  pub named : (a : AccessNets) → Contains accesses a → NamesCopies s events last a.number a.copy
  pub asked : (a : AccessNets) (w : WordNet) → Contains accesses a → a.answer ≡ Some w → (a.kind ≡ Read) ⊎ ((a.kind ≡ Deq) × (kind_of core a.mem ≡ Fifo))
  pub owners_act : OwnersInTime core s events last owners
  -- the nets of accesses, as some draft has them
  pub within : All (λ (a : AccessNets). a.mem < length core.mems) accesses
  pub draft : Draft
  pub stand : All (AccessStands draft core) accesses

-- the port of an argument has the argument's word in each cycle
abbrev pub IsGiven : PlainCore → PlainInput → Signals → (mem port : ℕ) → Type 0
IsGiven core input s m port = kind_of core m ≡ ArgIn → (t : ℕ) → s.net t port ≡ slice_index_or (words_of (first_store core input m)) 0 0

-- so has that of each, by its number
abbrev pub ArgumentsGiven : PlainCore → PlainInput → Signals → (arguments : List ℕ) → Type 0
ArgumentsGiven core input s arguments = (m : ℕ) → m < length core.mems → IsGiven core input s m (slice_index arguments m)

-- A net that follows a port has its word from cycle 1 on, so no read of an argument is to be answered in cycle 0.
abbrev pub ArgumentsAreLater : PlainCore → List Stamped → List AccessNets → Type 0
ArgumentsAreLater core events accesses =
    (a : AccessNets) (w : WordNet) → Contains accesses a → kind_of core a.mem ≡ ArgIn → a.answer ≡ Some w → (t : ℕ) (e : Event) → Happens events a.number t e → 0 < t + w.after

module _ (core : PlainCore) (plan : PlainPlan) where
  -- the circuit of a register or an output is asked what happens to it
  abbrev pub RegistersAreAsked : Type 0
  RegistersAreAsked =
      (s : Signals) (events : List Stamped) (last : ℕ) (accesses : List AccessNets) (owners : OwnerNets) (input : PlainInput) → MemoriesInTime core s events last accesses owners → HappensWell core plan events (first_contents core input)
      → (m net : ℕ) → m < length core.mems → IsScalar (kind_of core m) → kind_of core m ≢ ArgIn → (w : RunsWord core plan s accesses owners m net) → IsRegisterOf core plan m s events (first_contents core input) last w.part w.nets

  -- so up to the cycle after its net has the word that stands there in its copy 0
  abbrev pub ScalarsHold : Type 0
  ScalarsHold =
      (s : Signals) (events : List Stamped) (last : ℕ) (accesses : List AccessNets) (owners : OwnerNets) (input : PlainInput) → MemoriesInTime core s events last accesses owners → HappensWell core plan events (first_contents core input)
      → (m net : ℕ) → m < length core.mems → IsScalar (kind_of core m) → kind_of core m ≢ ArgIn → RunsWord core plan s accesses owners m net
      → (t : ℕ) → t ≤ suc last → HasWord core (standing core events (first_contents core input) t (copy_place m 0)) (s.net t net)

  -- after all that happens an output's net has the word that is left
  abbrev pub OutputsAreLeft : Type 0
  OutputsAreLeft =
      (s : Signals) (events : List Stamped) (last : ℕ) (accesses : List AccessNets) (owners : OwnerNets) (input : PlainInput) → MemoriesInTime core s events last accesses owners → HappensWell core plan events (first_contents core input)
      → (m net : ℕ) → m < length core.mems → kind_of core m ≡ ArgOut → RunsWord core plan s accesses owners m net → (t : ℕ) → t ≤ suc last → Each (λ (x : Stamped). x.cycle < t) events
      → (word : ℕ) → after is_place (does core) (events_of core events) (first_contents core input) (copy_place m 0) ≡ one_cell core word → s.net t net ≡ word

  -- and each read of a memory of one word is answered up to the cycle after
  abbrev pub ScalarsAnswer : Type 0
  ScalarsAnswer =
      (s : Signals) (events : List Stamped) (last : ℕ) (accesses : List AccessNets) (owners : OwnerNets) (input : PlainInput) → MemoriesInTime core s events last accesses owners → HappensWell core plan events (first_contents core input)
      → ArgumentsAreLater core events accesses → (a : AccessNets) (w : WordNet) → Contains accesses a → a.kind ≡ Read → a.answer ≡ Some w
      → IsScalar (kind_of core a.mem) → (port net : ℕ) → RunsScalar core plan s accesses owners port a.mem net → IsGiven core input s a.mem port → IsAnswered s events (suc last) a.number Read w.after w.net
