-- The words of DRAMs over the timeline of a run, as statements.
use Rattle.std.specs.Prelude.{◌≡◌, ℕ, suc, ◌<◌, ◌≤◌, List, length, slice_index_or}
use Rattle.std.specs.List.{Contains}
use Rattle.sp_words.specs.Interface.{word_count}
use Rattle.sp_words.specs.Ports.{PlainInput}
use Rattle.sp_netlist.specs.Signals.{Signals}
use Rattle.sp_core.specs.Declarations.{dims, dram_number}
use Rattle.sp_core.specs.Events.{Event, touches}
use Rattle.sp_core.specs.History.{History}
use Rattle.sp_core.specs.Invariant.{IsCore}
use Rattle.sp_core.specs.Meaning.{first_store}
use Rattle.sp_core.specs.PlainCore.{PlainCore}
use Rattle.sp_core.specs.Store.{Store, words_of}
use Rattle.sp_plan.specs.PlainPlan.{PlainPlan}
use Rattle.sp_time.specs.Lists.{Each}
use Rattle.sp_time.specs.Places.{Place}
use Rattle.sp_machine.specs.Found.{one_cell}
use Rattle.sp_machine.specs.Stamps.{Stamped}
use Rattle.sp_machine.specs.Timeline.{core_timed}
use Rattle.sp_machine.specs.Transfers.{Delays}
use Rattle.sp_overlap.specs.Whole.{IsTimed}
use Rattle.sp_contents.specs.Found.{first_contents, IsFound}
use Rattle.sp_contents.specs.Steady.{IsAllowed}
use Rattle.sp_node_runs.specs.BodiesTold.{SomeHappens}
use Rattle.sp_transfer_runs.specs.Stores.{StoresInTime}
use Rattle.sp_transfer_runs.specs.Told.{AreFoundInDram}
use Rattle.sp_memory_words.specs.Moments.{HappensWell}
use Rattle.sp_memory_words.specs.Registers.{standing}
use Rattle.sp_bank_words.specs.Accesses.{reads_in, writes_in}
use Rattle.sp_dram_words.specs.Units.{StoreUnit, nets_of, RunsDram}

-- the dimensions of a DRAM, and how many words it has
abbrev pub dram_dims : PlainCore → (dram : ℕ) → List ℕ
dram_dims core r = dims core (dram_number core r)

abbrev pub dram_size : PlainCore → (dram : ℕ) → ℕ
dram_size core r = word_count (dram_dims core r)

-- the place of a word of it, and the word that the input has there
abbrev pub dram_place : PlainCore → (dram element : ℕ) → Place
dram_place core r i = record { mem = dram_number core r; copy = 0; element = i }

abbrev pub input_word : PlainCore → PlainInput → (dram element : ℕ) → ℕ
input_word core input r i = slice_index_or (words_of (first_store core input (dram_number core r))) i 0

-- all that is done to a memory is done to one copy of it
abbrev pub IsInOneCopy : List Stamped → (mem : ℕ) → Type 0
IsInOneCopy events m = (t c : ℕ) (e : Event) → Contains events (record { cycle = t; copy = c; moment = touches e }) → e.mem ≡ m → c ≡ 0

-- Up to a cycle each of these units stores to a DRAM in the cycles of the events of its number that write there, and in no other, and
-- each such event is of the number of one of them.
pub record DramInTime (core : PlainCore) (s : Signals) (events : List Stamped) (last r : ℕ) (units : List StoreUnit) : Type 0 where
  pub acts : (u : StoreUnit) → Contains units u → StoresInTime s (dram_dims core r) (writes_in (dram_number core r) events) last u.number u.nets.ready u.nets.address u.nets.word
  pub has_each : (n t : ℕ) → t ≤ last → SomeHappens (writes_in (dram_number core r) events) n t → (u : StoreUnit) × Contains units u × (u.number ≡ n)

-- a DRAM of a core in a run, which has the words of the input at first, and to which its units store in time
pub record IsDramOf (core : PlainCore) (input : PlainInput) (s : Signals) (events : List Stamped) (last r : ℕ) (units : List StoreUnit) : Type 0 where
  pub one : IsInOneCopy events (dram_number core r)
  pub runs : RunsDram s r (dram_size core r) (input_word core input r) (nets_of units)
  pub in_time : DramInTime core s events last r units

module _ (core : PlainCore) (plan : PlainPlan) where
  -- up to the cycle after, each of its words is the one that stands at its place in the timeline
  abbrev pub DramsHold : Type 0
  DramsHold =
      (input : PlainInput) (events : List Stamped) → HappensWell core plan events (first_contents core input)
      → (s : Signals) (last r : ℕ) (units : List StoreUnit) → IsDramOf core input s events last r units
      → (t i : ℕ) → t ≤ suc last → i < dram_size core r → standing core events (first_contents core input) t (dram_place core r i) ≡ one_cell core (s.dram t r i)

  -- so each event that reads one of them finds it there
  abbrev pub LoadsFind : Type 0
  LoadsFind =
      (input : PlainInput) (events : List Stamped) → HappensWell core plan events (first_contents core input)
      → (s : Signals) (last r : ℕ) (units : List StoreUnit) → IsDramOf core input s events last r units
      → (number : ℕ) → AreFoundInDram s r (dram_dims core r) (reads_in (dram_number core r) events) (suc last) number

module _ (core : PlainCore) (plan : PlainPlan) (delays : Delays) where
  -- in a run all that is done to a DRAM is done to one copy
  abbrev pub DramsAreOne : Type 0
  DramsAreOne =
      IsCore core → IsTimed core.root → (h : History) → Each (λ x. IsAllowed core x.moment) (core_timed core plan delays h).events
      → (r : ℕ) → r < length core.ports.drams → IsInOneCopy (core_timed core plan delays h).events (dram_number core r)

  -- from the cycle on by which all that happens is over, its words are those that the run leaves
  abbrev pub DramsEnd : Type 0
  DramsEnd =
      (input : PlainInput) (h : History) (end : Store) → IsFound core plan delays h end (first_contents core input) → HappensWell core plan (core_timed core plan delays h).events (first_contents core input)
      → (s : Signals) (last r : ℕ) (units : List StoreUnit) → r < length core.ports.drams → IsDramOf core input s (core_timed core plan delays h).events last r units
      → (over : ℕ) → Each (λ x. x.cycle < over) (core_timed core plan delays h).events
      → (t i : ℕ) → over ≤ t → t ≤ suc last → i < dram_size core r → s.dram t r i ≡ slice_index_or (words_of (end (dram_number core r))) i 0
