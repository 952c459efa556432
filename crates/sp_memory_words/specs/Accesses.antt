-- Accesses of a circuit as those of a core's operations, by their numbers.
use Rattle.std.specs.Prelude.{◌≡◌, ℕ, ◌<◌, ◌≤◌, true, List, length, Option, Some}
use Rattle.std.specs.List.{Contains}
use Rattle.sp_words.specs.declared.kind.Kind.{Kind}
use Rattle.sp_words.specs.declared.kind.Kind.TheVariants.{Reg, Fifo, ArgIn, ArgOut}
use Rattle.sp_words.specs.Memory.{Contents}
use Rattle.sp_netlist.specs.Signals.{Signals}
use Rattle.sp_gates.specs.Tested.{is_on}
use Rattle.sp_core.specs.declared.operation.OpKind.{OpKind}
use Rattle.sp_core.specs.declared.operation.OpKind.TheVariants.{Write, Enq, Deq, Reset}
use Rattle.sp_core.specs.Events.{renews, keeps}
use Rattle.sp_core.specs.Declarations.{kind_of}
use Rattle.sp_core.specs.Invariant.{IsCore}
use Rattle.sp_core.specs.PlainCore.{PlainOp, PlainCore}
use Rattle.sp_plan.specs.PlainPlan.{PlainPlan}
use Rattle.sp_time.specs.Places.{Place}
use Rattle.sp_machine.specs.InOrder.{is_done}
use Rattle.sp_machine.specs.Stamps.{Stamped}
use Rattle.sp_mem.specs.declared.part.Fresh.{Fresh}
use Rattle.sp_mem.specs.declared.part.Touch.{Touch}
use Rattle.sp_mem.specs.Copies.{copy_at, is_at}
use Rattle.sp_part_runs.specs.ActsEntries.{word_that_changes}
use Rattle.sp_node_runs.specs.BodiesTold.{ActsInTime}
use Rattle.sp_tree_events.specs.ToldItems.{operation, NodeHas}
use Rattle.sp_memory_words.specs.Moments.{IsAt, HappensWell}
use Rattle.sp_memory_words.specs.Answers.{NamesCopies, IsOf}
use Rattle.sp_memory_words.specs.Asked.{AreWrites, ArePuts, AreTakes, AreFresh}

-- an operation of this kind on the memory stands at a number of the core
pub record IsOperation (core : PlainCore) (m : ℕ) (kind : OpKind) (number : ℕ) : Type 0 where
  pub op : PlainOp
  pub stands : NodeHas core.root 0 number (operation op)
  pub mem : op.mem ≡ Some m
  pub kind_is : op.kind ≡ kind

module _ (core : PlainCore) (s : Signals) (events : List Stamped) (last m : ℕ) where
  -- an access of such an operation, which acts at its events up to a cycle, and names their copies
  pub record IsAccess (kind : OpKind) (number enable : ℕ) (operands : List ℕ) (copy : Option ℕ) : Type 0 where
    pub is : IsOperation core m kind number
    pub acts : ActsInTime s events last number kind enable operands
    pub names : NamesCopies s events last number copy

  -- a touch writes or puts the word that its operation takes for that
  pub record GivesWord (kind : OpKind) (a : Touch) : Type 0 where
    pub number : ℕ
    pub operands : List ℕ
    pub access : IsAccess kind number a.enable operands a.copy
    pub some : 0 < length operands
    pub word : a.word ≡ word_that_changes kind operands

  -- a write is that of an operation, or of an FSM, which is enabled only where the FSM keeps its state
  pub data IsWrite : Touch → Type 0 where
    an_operation : (w : Touch) → GivesWord Write w → IsWrite w
    a_machine : (w : Touch) → ((t : ℕ) → t ≤ last → is_on s w.enable t ≡ true → IsAt events t (copy_at s t w.copy) (keeps m (s.net t w.word))) → IsWrite w

  -- a copy is made fresh by a reset, or by its owner
  pub data Makes : Fresh → Type 0 where
    a_reset : (f : Fresh) (number : ℕ) (operands : List ℕ) → IsAccess Reset number f.enable operands f.copy → Makes f
    an_owner : (f : Fresh) → is_done core (renews m) ≡ true → ((t : ℕ) → t ≤ last → is_on s f.enable t ≡ true → IsAt events t (copy_at s t f.copy) (renews m)) → Makes f

  -- the list has an access of each operation of this kind on the memory
  abbrev pub HasEach : OpKind → List Touch → Type 0
  HasEach kind list = (n : ℕ) → IsOperation core m kind n → (a : Touch) × (operands : List ℕ) × Contains list a × IsAccess kind n a.enable operands a.copy

  -- all writes to the memory and nothing else: of operations by their numbers, and of an FSM where it keeps its state
  pub record HasAllWrites (list : List Touch) : Type 0 where
    pub each : (w : Touch) → Contains list w → IsWrite w
    pub operations : HasEach Write list
    pub states : (t c word : ℕ) → t ≤ last → IsAt events t c (keeps m word) → (w : Touch) × Contains list w × (is_at s t w.enable w.copy c ≡ true)

  -- all that makes it fresh: resets by their numbers, and its owner where it does
  pub record HasAllFresh (list : List Fresh) : Type 0 where
    pub each : (f : Fresh) → Contains list f → Makes f
    pub operations : (n : ℕ) → IsOperation core m Reset n → (f : Fresh) × (operands : List ℕ) × Contains list f × IsAccess Reset n f.enable operands f.copy
    pub owners : (t c : ℕ) → t ≤ last → IsAt events t c (renews m) → is_done core (renews m) ≡ true → (f : Fresh) × Contains list f × (is_at s t f.enable f.copy c ≡ true)

  pub record HasAllPuts (list : List Touch) : Type 0 where
    pub each : (a : Touch) → Contains list a → GivesWord Enq a
    pub operations : HasEach Enq list

  pub record HasAllTakes (list : List Touch) : Type 0 where
    pub each : (a : Touch) → Contains list a → (number : ℕ) × (operands : List ℕ) × IsAccess Deq number a.enable operands a.copy
    pub operations : HasEach Deq list

-- no transfer moves words of such a memory
abbrev pub IsStill : Kind → Type 0
IsStill Reg = Unit {0}
IsStill Fifo = Unit {0}
IsStill ArgIn = Unit {0}
IsStill ArgOut = Unit {0}
IsStill _ = ⊥

-- the events of an operation's number are of its kind and at its memory
abbrev pub OperationsStay : PlainCore → PlainPlan → Type 0
OperationsStay core plan =
    (events : List Stamped) (first : Place → Option Contents) → HappensWell core plan events first → (m n : ℕ) (kind : OpKind) → IsOperation core m kind n → IsOf events kind n m

-- where all accesses to a memory are there, its circuit is asked what happens
pub record Asks (core : PlainCore) (events : List Stamped) (m : ℕ) : Type 0 where
  pub writes : (s : Signals) (last : ℕ) (list : List Touch) → HasAllWrites core s events last m list → AreWrites s events last m list
  pub fresh : (s : Signals) (last : ℕ) (list : List Fresh) → HasAllFresh core s events last m list → AreFresh s events last m core list
  pub puts : (s : Signals) (last : ℕ) (list : List Touch) → HasAllPuts core s events last m list → ArePuts s events last m list
  pub takes : (s : Signals) (last : ℕ) (list : List Touch) → HasAllTakes core s events last m list → AreTakes s events last m list

abbrev pub AccessesAsk : PlainCore → PlainPlan → Type 0
AccessesAsk core plan =
    IsCore core → (events : List Stamped) (first : Place → Option Contents) → HappensWell core plan events first → (m : ℕ) → IsStill (kind_of core m) → Asks core events m
