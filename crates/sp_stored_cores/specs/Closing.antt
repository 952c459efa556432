-- A core of registers, arguments, outputs, SRAMs and FIFOs goes along with its timeline, as a statement.
use Rattle.std.specs.Prelude.{◌≡◌, ℕ, suc, ◌<◌, ◌≤◌, true, List, length, slice_index, slice_index_or}
use Rattle.sp_words.specs.declared.kind.Kind.TheVariants.{ArgOut}
use Rattle.sp_words.specs.Ports.{PlainInput}
use Rattle.sp_netlist.specs.declared.parts.Child.{Child}
use Rattle.sp_netlist.specs.Signals.{Setting, Signals}
use Rattle.sp_gates.specs.Tested.{is_on}
use Rattle.sp_core.specs.declared.access.Meet.{Meet}
use Rattle.sp_core.specs.Declarations.{mem, dram_number}
use Rattle.sp_core.specs.History.{History}
use Rattle.sp_core.specs.Inputs.{InputFits}
use Rattle.sp_core.specs.Meaning.{run_core}
use Rattle.sp_core.specs.PlainCore.{PlainCore}
use Rattle.sp_core.specs.Scope.{in_lanes}
use Rattle.sp_core.specs.Step.{went}
use Rattle.sp_core.specs.Store.{Store, words_of}
use Rattle.sp_plan.specs.PlainPlan.{PlainPlan}
use Rattle.sp_machine.specs.Timeline.{core_timed}
use Rattle.sp_machine.specs.Transfers.{Delays}
use Rattle.sp_overlap.specs.Whole.{HasPlan}
use Rattle.sp_patterns.specs.Patterns.{patterns_of}
use Rattle.sp_meets.specs.Meets.{IsMeetsOf}
use Rattle.sp_transfer_runs.specs.Delays.{delays_of}
use Rattle.sp_dram_words.specs.Units.{nets_of, RunsDram}
use Rattle.sp_dram_words.specs.Laws.{dram_size, input_word}
use Rattle.sp_stored_cores.specs.ScalarInTime.{ArgumentsGiven}
use Rattle.sp_stored_cores.specs.Circuits.{IsStoredCore, StoredCircuit, StartsOnce}
use Rattle.sp_stored_cores.specs.Loads.{took_by}
use Rattle.sp_stored_cores.specs.Stores.{StoreAccess, units_of}

-- a run of the core from an input that fits, by a plan that is valid for the core's own forms and meets
pub record RunsByPlan (core : PlainCore) (plan : PlainPlan) (input : PlainInput) (h : History) (left : Store) : Type 0 where
  pub meets : List Meet
  pub planned : HasPlan core (patterns_of core) meets plan
  pub meets_are : IsMeetsOf core (patterns_of core) meets
  pub fits : InputFits core input
  pub turns : ℕ
  pub ran : run_core in_lanes turns core input ≡ went h left

-- each DRAM has at first the words that it is given, and after each cycle what the units of its stores leave
abbrev pub DramsRun : PlainCore → PlainInput → Signals → List StoreAccess → Type 0
DramsRun core input s storing = (r : ℕ) → r < length core.ports.drams → RunsDram s r (dram_size core r) (input_word core input r) (nets_of (units_of r storing))

-- The run takes time. Up to a cycle the circuit is done in its last cycle, and in no other; from the next cycle on the nets of outputs
-- and the DRAMs have the words that the run leaves.
pub record GoesAlong (core : PlainCore) (plan : PlainPlan) (delays : Delays) (s : Signals) (bound : ℕ) (c : Child) (words : List ℕ) (h : History) (left : Store) : Type 0 where
  pub takes_time : 1 ≤ (core_timed core plan delays h).took
  pub is_done : (t : ℕ) → t ≤ bound → suc t ≡ (core_timed core plan delays h).took → is_on s c.done t ≡ true
  pub only : (t : ℕ) → t ≤ bound → is_on s c.done t ≡ true → suc t ≡ (core_timed core plan delays h).took
  pub drams : (r i t : ℕ) → t ≤ bound → r < length core.ports.drams → i < dram_size core r → (core_timed core plan delays h).took ≤ t → s.dram t r i ≡ slice_index_or (words_of (left (dram_number core r))) i 0
  pub outs : (m t : ℕ) → t ≤ bound → m < length core.mems → (mem core m).kind ≡ ArgOut → (core_timed core plan delays h).took ≤ t → s.net t (slice_index words m) ≡ slice_index_or (words_of (left m)) 0 0

-- So does the circuit of such a core, with the words of its arguments on their nets and those of its DRAMs in them at first, by the timeline
-- in which its transfers wait for what their channels took in the cycles before the bound.
abbrev pub StoredCoresGo : PlainCore → PlainPlan → Type 0
StoredCoresGo core plan =
    (g : Setting) (s : Signals) (c : Child) (arguments words : List ℕ) → IsStoredCore core → (x : StoredCircuit core plan g s c arguments words) → StartsOnce s c.start
    → (input : PlainInput) (h : History) (left : Store) → RunsByPlan core plan input h left → ArgumentsGiven core input s arguments → DramsRun core input s x.storing
    → (bound : ℕ) → GoesAlong core plan (delays_of core h (took_by g s x.channels bound)) s bound c words h left
