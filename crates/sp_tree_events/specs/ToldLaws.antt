-- Which operation or transfer each event of a run is of, by its number, as statements.
use Rattle.std.specs.Prelude.{◌≡◌, ℕ, ◌≤◌, ◌<◌, ◌+◌, ◌⊎◌, Some}
use Rattle.sp_words.specs.declared.kind.Kind.{Kind}
use Rattle.sp_words.specs.declared.kind.Kind.TheVariants.{Sram, LineBuf}
use Rattle.sp_core.specs.Declarations.{kind_of, dram_number}
use Rattle.sp_core.specs.Events.{Standing, Event, act_of, Moment, touches, moments, core_moments}
use Rattle.sp_core.specs.History.{History}
use Rattle.sp_core.specs.Invariant.{IsCore}
use Rattle.sp_core.specs.Numbering.{number_count}
use Rattle.sp_core.specs.PlainCore.{PlainNode, PlainCore}
use Rattle.sp_core.specs.Scope.{in_lanes}
use Rattle.sp_plan.specs.PlainPlan.{PlainPlan}
use Rattle.sp_time.specs.Lists.{Each}
use Rattle.sp_machine.specs.Timeline.{core_timed}
use Rattle.sp_machine.specs.Transfers.{Delays}
use Rattle.sp_overlap.specs.Whole.{IsTimed}
use Rattle.sp_tree_events.specs.ToldItems.{Item, operation, transfer, NodeHas}

-- an operation does an act of its kind to its memory; a transfer touches its memory and its DRAM
abbrev pub Does : PlainCore → Item → Event → Type 0
Does core (operation op) e = (op.mem ≡ Some e.mem) × (word : ℕ) × (act_of op.kind word ≡ Some e.act)
Does core (transfer r m) e = (e.mem ≡ m) ⊎ (e.mem ≡ dram_number core r)

-- an event is of an item that the core has at its number
abbrev pub IsOfItem : PlainCore → Moment → Type 0
IsOfItem core (touches e) = (i : Item) × NodeHas core.root 0 e.number i × Does core i e
IsOfItem core _ = Unit {0}

-- so is each event of a run, and of its timeline
abbrev pub EventsAreOfItems : PlainCore → Type 0
EventsAreOfItems core = IsTimed core.root → (h : History) → Each (IsOfItem core) (core_moments core in_lanes h)

abbrev pub TimelinesAreOfItems : PlainCore → PlainPlan → Delays → Type 0
TimelinesAreOfItems core plan delays = IsTimed core.root → (h : History) → Each (λ s. IsOfItem core s.moment) (core_timed core plan delays h).events

-- events of numbers from one on and below another one
abbrev pub IsWithin : (low high : ℕ) → Moment → Type 0
IsWithin low high (touches e) = (low ≤ e.number) × (e.number < high)
IsWithin low high _ = Unit {0}

-- what happens in a part has the numbers of the part's items
abbrev pub NumbersAreWithin : PlainCore → PlainNode → Type 0
NumbersAreWithin core node = IsTimed node → (k n : ℕ) (st : Standing) (h : History) → Each (IsWithin n (n + number_count node)) (moments core in_lanes node k n st h)

-- no number stands for two
abbrev pub NumbersStandForOne : PlainNode → Type 0
NumbersStandForOne node = (n x : ℕ) (i j : Item) → NodeHas node n x i → NodeHas node n x j → i ≡ j

-- the memory of a transfer is an SRAM or a line buffer
abbrev pub IsMoved : Kind → Type 0
IsMoved Sram = Unit {0}
IsMoved LineBuf = Unit {0}
IsMoved _ = ⊥

abbrev pub TransfersMove : PlainCore → Type 0
TransfersMove core = IsCore core → (x r m : ℕ) → NodeHas core.root 0 x (transfer r m) → IsMoved (kind_of core m)
