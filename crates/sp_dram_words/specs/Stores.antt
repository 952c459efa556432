-- From stores and loads, each by the events of its own runs, to the DRAMs of a core, as statements.
use Rattle.std.specs.Prelude.{◌≡◌, ℕ, List}
use Rattle.std.specs.List.{Contains}
use Rattle.sp_netlist.specs.Signals.{Signals}
use Rattle.sp_core.specs.Declarations.{dram_number}
use Rattle.sp_core.specs.History.{History}
use Rattle.sp_core.specs.Invariant.{IsCore}
use Rattle.sp_core.specs.PlainCore.{PlainCore}
use Rattle.sp_plan.specs.PlainPlan.{PlainPlan}
use Rattle.sp_machine.specs.Stamps.{Stamped}
use Rattle.sp_machine.specs.Timeline.{core_timed}
use Rattle.sp_machine.specs.Transfers.{Delays}
use Rattle.sp_overlap.specs.Whole.{IsTimed}
use Rattle.sp_transfer_runs.specs.Stores.{StoresInTime}
use Rattle.sp_transfer_runs.specs.Told.{AreFoundInDram}
use Rattle.sp_tree_events.specs.PartsAgreeing.{Agree}
use Rattle.sp_bank_words.specs.Accesses.{reads_in}
use Rattle.sp_dram_words.specs.Units.{StoreUnit}
use Rattle.sp_dram_words.specs.Moves.{loads, stores, NodeMoves}
use Rattle.sp_dram_words.specs.Laws.{dram_dims, DramInTime}

module _ (core : PlainCore) (s : Signals) (events : List Stamped) (last r : ℕ) where
  -- a unit of a store to a DRAM: up to a cycle it stores in time by the events of the store's own runs, which are those of its number
  pub record IsUnitOf (u : StoreUnit) : Type 0 where
    pub mem : ℕ
    pub stands : NodeMoves core.root 0 u.number (stores r mem)
    pub part : List Stamped
    pub agrees : Agree events part u.number
    pub acts : StoresInTime s (dram_dims core r) part last u.number u.nets.ready u.nets.address u.nets.word

  -- each unit is such, and each store to the DRAM has one
  pub record HasStores (units : List StoreUnit) : Type 0 where
    pub each : (u : StoreUnit) → Contains units u → IsUnitOf u
    pub all : (n m : ℕ) → NodeMoves core.root 0 n (stores r m) → (u : StoreUnit) × Contains units u × (u.number ≡ n)

module _ (core : PlainCore) (plan : PlainPlan) (delays : Delays) where
  -- then these units store to the DRAM in time in the timeline of the run
  abbrev pub StoresAreInTime : Type 0
  StoresAreInTime =
      IsCore core → IsTimed core.root → (h : History) (s : Signals) (last r : ℕ) (units : List StoreUnit)
      → HasStores core s (core_timed core plan delays h).events last r units → DramInTime core s (core_timed core plan delays h).events last r units

  -- and what the timeline's reads of a DRAM find, a load's own do
  abbrev pub LoadsFindOwn : Type 0
  LoadsFindOwn =
      IsTimed core.root → (h : History) (s : Signals) (last n r m : ℕ) (part : List Stamped) → NodeMoves core.root 0 n (loads r m) → Agree (core_timed core plan delays h).events part n
      → AreFoundInDram s r (dram_dims core r) (reads_in (dram_number core r) (core_timed core plan delays h).events) last n → AreFoundInDram s r (dram_dims core r) part last n
