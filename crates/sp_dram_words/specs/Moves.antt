-- What loads and stores do in a run, by their numbers, as statements.
use Rattle.std.specs.Prelude.{◌≡◌, ◌⊎◌, ℕ, ◌+◌, true, List, length, Some}
use Rattle.sp_core.specs.Declarations.{dram_number}
use Rattle.sp_core.specs.Events.{reads, writes, Event, Moment, touches}
use Rattle.sp_core.specs.History.{History}
use Rattle.sp_core.specs.Invariant.{IsCore}
use Rattle.sp_core.specs.Meeting.{changes}
use Rattle.sp_core.specs.Numbering.{counters_size, spans_size, number_count}
use Rattle.sp_core.specs.PlainCore.{PlainOp, PlainNode, PlainStages, outer, fsm, branch, load, store, no_stage, more_stage, PlainCore}
use Rattle.sp_plan.specs.PlainPlan.{PlainPlan}
use Rattle.sp_time.specs.Lists.{Each}
use Rattle.sp_machine.specs.Stamps.{Stamped}
use Rattle.sp_machine.specs.Timeline.{core_timed}
use Rattle.sp_machine.specs.Transfers.{Delays}
use Rattle.sp_overlap.specs.Whole.{IsTimed}
use Rattle.sp_node_runs.specs.BodiesTold.{Happens}
use Rattle.sp_tree_events.specs.ToldItems.{operation, transfer, NodeHas}

-- a transfer, of a DRAM and a memory
pub data Move : Type 0 where
  loads : (dram mem : ℕ) → Move
  stores : (dram mem : ℕ) → Move

-- a part of a core without sparse transfers, whose first number this is, has a load or a store at a number
abbrev mutual
  pub NodeMoves : PlainNode → (first number : ℕ) → Move → Type 0
  NodeMoves (outer counters style owned stages) n x v = StagesMove stages (n + counters_size counters) x v
  NodeMoves (fsm start state test body next) n x v = NodeMoves body (n + (length start + length test)) x v
  NodeMoves (branch test first second) n x v = NodeMoves first (n + length test) x v ⊎ NodeMoves second (n + (length test + number_count first)) x v
  NodeMoves (load r m spans) n x v = (x ≡ n + spans_size spans) × (v ≡ loads r m)
  NodeMoves (store r m spans) n x v = (x ≡ n + spans_size spans) × (v ≡ stores r m)
  NodeMoves _ n x v = ⊥

  pub StagesMove : PlainStages → (first number : ℕ) → Move → Type 0
  StagesMove no_stage n x v = ⊥
  StagesMove (more_stage first last comb node rest) n x v = NodeMoves node n x v ⊎ StagesMove rest (n + number_count node) x v

-- it is the transfer at that number, and the only one
pub record MovesAreItems (node : PlainNode) : Type 0 where
  pub load_is : (n x r m : ℕ) → NodeMoves node n x (loads r m) → NodeHas node n x (transfer r m)
  pub store_is : (n x r m : ℕ) → NodeMoves node n x (stores r m) → NodeHas node n x (transfer r m)
  pub one : (n x : ℕ) (v w : Move) → NodeMoves node n x v → NodeMoves node n x w → v ≡ w

-- a load reads its DRAM and changes its memory; a store reads its memory and writes its DRAM
abbrev pub MovesIn : PlainCore → Move → Event → Type 0
MovesIn core (loads r m) e = ((e.mem ≡ dram_number core r) × (w : ℕ) × (e.act ≡ reads w)) ⊎ ((e.mem ≡ m) × (changes e.act ≡ true))
MovesIn core (stores r m) e = ((e.mem ≡ m) × (w : ℕ) × (e.act ≡ reads w)) ⊎ ((e.mem ≡ dram_number core r) × (w : ℕ) × (e.act ≡ writes w))

-- an event is of an operation, at its memory, or of a load or a store
abbrev pub IsActed : PlainCore → Moment → Type 0
IsActed core (touches e) = ((op : PlainOp) × NodeHas core.root 0 e.number (operation op) × (op.mem ≡ Some e.mem)) ⊎ ((v : Move) × NodeMoves core.root 0 e.number v × MovesIn core v e)
IsActed core _ = Unit {0}

-- so is each event of a run
abbrev pub TimelinesAreActed : PlainCore → PlainPlan → Delays → Type 0
TimelinesAreActed core plan delays = IsTimed core.root → (h : History) → Each (λ x. IsActed core x.moment) (core_timed core plan delays h).events

-- what happens at the number of a load or a store is done by it
pub record MovesAct (core : PlainCore) (events : List Stamped) : Type 0 where
  pub load_reads : (n r m : ℕ) → NodeMoves core.root 0 n (loads r m) → (t w : ℕ) (e : Event) → Happens events n t e → e.act ≡ reads w → e.mem ≡ dram_number core r
  pub load_writes : (n r m : ℕ) → NodeMoves core.root 0 n (loads r m) → (t w : ℕ) (e : Event) → Happens events n t e → e.act ≡ writes w → e.mem ≡ m
  pub store_reads : (n r m : ℕ) → NodeMoves core.root 0 n (stores r m) → (t w : ℕ) (e : Event) → Happens events n t e → e.act ≡ reads w → e.mem ≡ m
  pub store_writes : (n r m : ℕ) → NodeMoves core.root 0 n (stores r m) → (t w : ℕ) (e : Event) → Happens events n t e → e.act ≡ writes w → e.mem ≡ dram_number core r

abbrev pub TransfersAct : PlainCore → PlainPlan → Delays → Type 0
TransfersAct core plan delays = IsTimed core.root → (h : History) → MovesAct core (core_timed core plan delays h).events

-- and what is written to a DRAM is written by a store to it, and read by a load of it
pub record DramsAreMoved (core : PlainCore) (events : List Stamped) : Type 0 where
  pub written_by : (n t r w : ℕ) (e : Event) → Happens events n t e → e.act ≡ writes w → e.mem ≡ dram_number core r → (m : ℕ) × NodeMoves core.root 0 n (stores r m)
  pub read_by : (n t r w : ℕ) (e : Event) → Happens events n t e → e.act ≡ reads w → e.mem ≡ dram_number core r → (m : ℕ) × NodeMoves core.root 0 n (loads r m)

abbrev pub TransfersMoveDrams : PlainCore → PlainPlan → Delays → Type 0
TransfersMoveDrams core plan delays = IsCore core → IsTimed core.root → (h : History) → DramsAreMoved core (core_timed core plan delays h).events
