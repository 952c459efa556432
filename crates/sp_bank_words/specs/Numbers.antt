-- By which accesses of a core its memories are read and changed, as a statement.
use Rattle.std.specs.Prelude.{◌≡◌, ℕ, ◌==◌, ◌&&◌, ◌⊎◌, true, List, map}
use Rattle.std.specs.List.{Contains, filter, list_any}
use Rattle.sp_words.specs.Ports.{PlainInput}
use Rattle.sp_words.specs.declared.kind.Kind.TheVariants.{Sram, LineBuf}
use Rattle.sp_core.specs.Declarations.{kind_of}
use Rattle.sp_core.specs.Events.{reads, Event, touches}
use Rattle.sp_core.specs.History.{History}
use Rattle.sp_core.specs.Inputs.{InputFits}
use Rattle.sp_core.specs.Invariant.{IsCore}
use Rattle.sp_core.specs.Meaning.{run_core}
use Rattle.sp_core.specs.PlainCore.{PlainCore}
use Rattle.sp_core.specs.Scope.{in_lanes}
use Rattle.sp_core.specs.Step.{went}
use Rattle.sp_core.specs.Store.{Store}
use Rattle.sp_plan.specs.PlainPlan.{PlainPlan}
use Rattle.sp_meets.specs.Spots.{PlainSpot, spots}
use Rattle.sp_machine.specs.InOrder.{is_done, memory_of}
use Rattle.sp_machine.specs.Stamps.{Stamped}
use Rattle.sp_machine.specs.Timeline.{core_timed}
use Rattle.sp_machine.specs.Transfers.{Delays}
use Rattle.sp_overlap.specs.Whole.{IsTimed}
use Rattle.sp_bank_words.specs.Accesses.{IsWriteOf, IsTurnOf, AreChanges}

-- the numbers of the operations and transfers that touch a memory, and of those that change it
abbrev pub accesses_of : PlainCore → (mem : ℕ) → List ℕ
accesses_of core m = map (λ (s : PlainSpot). s.number) (filter (λ s. list_any (λ t. t.mem == m) s.targets) (spots core))

abbrev pub changes_of : PlainCore → (mem : ℕ) → List ℕ
changes_of core m = map (λ (s : PlainSpot). s.number) (filter (λ s. list_any (λ t. (t.mem == m) && t.writes) s.targets) (spots core))

-- a read of one of these numbers
abbrev pub IsReadOf : (numbers : List ℕ) → Stamped → Type 0
IsReadOf numbers x = (e : Event) × (w : ℕ) × (x.moment ≡ touches e) × (e.act ≡ reads w) × Contains numbers e.number

-- all that is done to a memory in banks is a read of an access that touches it, or a write, or a turn of a line buffer, of one that changes it
pub record IsByAccess (core : PlainCore) (m : ℕ) (x : Stamped) : Type 0 where
  pub sram : kind_of core m ≡ Sram → is_done core x.moment ≡ true → memory_of x.moment ≡ m → IsReadOf (accesses_of core m) x ⊎ IsWriteOf (changes_of core m) x
  pub lines : kind_of core m ≡ LineBuf → is_done core x.moment ≡ true → memory_of x.moment ≡ m → IsReadOf (accesses_of core m) x ⊎ (IsWriteOf (changes_of core m) x ⊎ IsTurnOf (changes_of core m) x)

-- so it is with what happens, and all that changes a memory is by accesses that change it
pub record AreByAccesses (core : PlainCore) (events : List Stamped) : Type 0 where
  pub each : (m : ℕ) (x : Stamped) → Contains events x → IsByAccess core m x
  pub sram : (m : ℕ) → kind_of core m ≡ Sram → AreChanges core events m (IsWriteOf (changes_of core m))
  pub lines : (m : ℕ) → kind_of core m ≡ LineBuf → AreChanges core events m (λ x. IsWriteOf (changes_of core m) x ⊎ IsTurnOf (changes_of core m) x)

-- in the timeline of each run in lanes, by any plan
abbrev pub TimelinesAreByAccesses : PlainCore → PlainPlan → Delays → Type 0
TimelinesAreByAccesses core plan delays =
    IsCore core → IsTimed core.root → (input : PlainInput) (turns : ℕ) (h : History) (t : Store) → InputFits core input → run_core in_lanes turns core input ≡ went h t → AreByAccesses core (core_timed core plan delays h).events
