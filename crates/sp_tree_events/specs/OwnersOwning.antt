-- What owners do to their memories in a run: a loop makes them fresh, an FSM keeps its state. Where that stands in a whole and in the
-- part that owns the memory.
use Rattle.std.specs.Prelude.{◌≡◌, ℕ, suc, ◌+◌, ◌<◌, ◌⊎◌, true, false, List, ◌∷◌, length}
use Rattle.std.specs.List.{Contains}
use Rattle.sp_words.specs.declared.kind.Style.{Style}
use Rattle.sp_core.specs.Declarations.{is_among}
use Rattle.sp_core.specs.Events.{Standing, Moment, renews, keeps, moments}
use Rattle.sp_core.specs.History.{History}
use Rattle.sp_core.specs.Invariant.{owned_in}
use Rattle.sp_core.specs.Numbering.{counters_size, node_count, number_count}
use Rattle.sp_core.specs.PlainCore.{PlainOp, PlainCounter, PlainNode, PlainStages, outer, fsm, branch, PlainCore}
use Rattle.sp_core.specs.Scope.{in_lanes}
use Rattle.sp_plan.specs.PlainPlan.{PlainPlan}
use Rattle.sp_plan.specs.Validity.{stage_count}
use Rattle.sp_time.specs.Lists.{Each}
use Rattle.sp_machine.specs.Stamps.{Stamped}
use Rattle.sp_machine.specs.Transfers.{Delays}
use Rattle.sp_overlap.specs.Whole.{IsTimed, AreTimed}
use Rattle.sp_node_runs.specs.Runs.{Placed, side_runs, body_runs, stage_at, node_at, number_at, stage_runs}
use Rattle.sp_node_runs.specs.RunsTold.{all_events}

pub data Deed : Type 0 where
  renewed : (mem : ℕ) → Deed
  kept : (mem word : ℕ) → Deed

abbrev pub moment_of : Deed → Moment
moment_of (renewed m) = renews m
moment_of (kept m w) = keeps m w

abbrev pub deed_mem : Deed → ℕ
deed_mem (renewed m) = m
deed_mem (kept m w) = m

-- in a cycle, at a copy
abbrev pub Shows : List Stamped → (cycle copy : ℕ) → Deed → Type 0
Shows events t c d = Contains events (record { cycle = t; copy = c; moment = moment_of d })

-- what owners do to a memory is the same in both
abbrev pub OwnAgree : (whole part : List Stamped) → (mem : ℕ) → Type 0
OwnAgree whole part m = (t c : ℕ) (d : Deed) → deed_mem d ≡ m → (Shows whole t c d → Shows part t c d) × (Shows part t c d → Shows whole t c d)

-- an owner's deed is done to one of these memories
abbrev pub IsOwned : (owned : List ℕ) → Moment → Type 0
IsOwned owned (renews m) = is_among m owned ≡ true
IsOwned owned (keeps m w) = is_among m owned ≡ true
IsOwned owned _ = Unit {0}

-- so it is in runs of a node and the memories that it and its parts own
abbrev pub RunsOwn : PlainCore → PlainNode → Type 0
RunsOwn core node = IsTimed node → (k n : ℕ) (st : Standing) (h : History) → Each (IsOwned (owned_in node)) (moments core in_lanes node k n st h)

module _ (core : PlainCore) (plan : PlainPlan) (delays : Delays) where
  -- what is done by owners to a memory that one side of a branch owns, and the other one doesn't
  abbrev pub SidesOwn : Type 0
  SidesOwn =
      (k n : ℕ) (test : List PlainOp) (first second : PlainNode) (runs : List Placed) (m : ℕ) → IsTimed first → IsTimed second
      → (is_among m (owned_in second) ≡ false → OwnAgree (all_events core plan delays (branch test first second) k n runs) (all_events core plan delays first (suc k) (n + length test) (side_runs core plan delays test k true runs)) m)
      × (is_among m (owned_in first) ≡ false → OwnAgree (all_events core plan delays (branch test first second) k n runs) (all_events core plan delays second (suc k + node_count first) (n + (length test + number_count first)) (side_runs core plan delays test k false runs)) m)

  -- to one that isn't the state of an FSM, in its body
  abbrev pub BodiesOwn : Type 0
  BodiesOwn =
      (k n : ℕ) (start : List PlainOp) (state : ℕ) (test : List PlainOp) (body : PlainNode) (next : List PlainOp) (runs : List Placed) (m : ℕ) → IsTimed body → is_among m (state ∷ List.[]) ≡ false
      → OwnAgree (all_events core plan delays (fsm start state test body next) k n runs) (all_events core plan delays body (suc k) (n + (length start + length test)) (body_runs core plan delays start test next body k n runs)) m

  -- and to one that an outer body doesn't own itself, nor any of its stages but one
  abbrev pub StagesOwn : Type 0
  StagesOwn =
      (k n : ℕ) (counters : List PlainCounter) (style : Style) (owned : List ℕ) (stages : PlainStages) (runs : List Placed) (m : ℕ) → AreTimed stages → is_among m owned ≡ false
      → (i : ℕ) → i < stage_count stages → ((s : ℕ) → (s < i) ⊎ (i < s) → is_among m (owned_in (stage_at stages s)) ≡ false)
      → OwnAgree (all_events core plan delays (outer counters style owned stages) k n runs) (all_events core plan delays (stage_at stages i) (node_at stages (suc k) i) (number_at stages (n + counters_size counters) i) (stage_runs core plan delays counters owned stages k n i runs)) m
