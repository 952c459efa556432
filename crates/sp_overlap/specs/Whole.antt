-- A valid plan of a core makes each part of a run sound, so what happens in the run comes in order.
use Rattle.std.specs.Prelude.{◌≡◌, ℕ, false, true, List, []}
use Rattle.sp_words.specs.Ports.{PlainInput}
use Rattle.sp_core.specs.declared.access.Meet.{Meet}
use Rattle.sp_core.specs.Declarations.{is_stream}
use Rattle.sp_core.specs.Events.{core_moments, events_of}
use Rattle.sp_core.specs.Forms.{PlainForms}
use Rattle.sp_core.specs.History.{History}
use Rattle.sp_core.specs.Inputs.{InputFits}
use Rattle.sp_core.specs.Invariant.{IsCore}
use Rattle.sp_core.specs.Meaning.{run_core}
use Rattle.sp_core.specs.Meeting.{are_met, MeetsHold}
use Rattle.sp_core.specs.PlainCore.{PlainNode, PlainStages, outer, fsm, branch, sparse, no_stage, more_stage, PlainCore}
use Rattle.sp_core.specs.Scope.{in_lanes}
use Rattle.sp_core.specs.Step.{went}
use Rattle.sp_core.specs.Store.{Store}
use Rattle.sp_plan.specs.PlainPlan.{PlainPlan}
use Rattle.sp_plan.specs.Slots.{runs_of}
use Rattle.sp_plan.specs.Validity.{schemes_of, IsValid}
use Rattle.sp_time.specs.Lists.{Pairs}
use Rattle.sp_machine.specs.InOrder.{AreInOrder}
use Rattle.sp_machine.specs.Sound.{IsSound}
use Rattle.sp_machine.specs.Timeline.{core_timed}
use Rattle.sp_machine.specs.Transfers.{Delays}
use Rattle.sp_overlap.specs.Apart.{AreOfOneLane}

-- no `Stream` block and no gather, scatter or wide transfer stands in a part
abbrev mutual
  pub IsTimed : PlainNode → Type 0
  IsTimed (outer counters style owned stages) = (is_stream style ≡ false) × AreTimed stages
  IsTimed (fsm start state test body next) = IsTimed body
  IsTimed (branch test first second) = IsTimed first × IsTimed second
  IsTimed (sparse kind r m places spans count par) = ⊥
  IsTimed _ = Unit {0}

  pub AreTimed : PlainStages → Type 0
  AreTimed no_stage = Unit {0}
  AreTimed (more_stage first last comb node rest) = IsTimed node × AreTimed rest

-- what a loop owns is used in one lane alone, and after all lanes
abbrev mutual
  pub IsByLane : PlainCore → PlainNode → Type 0
  IsByLane core (outer counters style owned stages) = ((n : ℕ) → AreOfOneLane core owned stages (runs_of n stages)) × AreByLane core stages
  IsByLane core (fsm start state test body next) = IsByLane core body
  IsByLane core (branch test first second) = IsByLane core first × IsByLane core second
  IsByLane core _ = Unit {0}

  pub AreByLane : PlainCore → PlainStages → Type 0
  AreByLane core no_stage = Unit {0}
  AreByLane core (more_stage first last comb node rest) = IsByLane core node × AreByLane core rest

-- a core of this kind, with a valid plan
pub record HasPlan (core : PlainCore) (forms : PlainForms) (meets : List Meet) (plan : PlainPlan) : Type 0 where
  pub is_core : IsCore core
  pub is_timed : IsTimed core.root
  pub by_lane : IsByLane core core.root
  pub valid : IsValid core forms meets plan

-- where the events of a run stand in the meets, each part of the run is sound
abbrev pub PlansAreSound : PlainCore → PlainPlan → Delays → Type 0
PlansAreSound core plan delays =
    (forms : PlainForms) (meets : List Meet) → HasPlan core forms meets plan → (h : History) → are_met core meets (events_of (core_moments core in_lanes h)) ≡ true
    → IsSound core plan delays (schemes_of plan) meets core.root 0 0 (record { path = []; counters = [] }) (λ m. 0) h

-- so each run of the core comes in order, where the meets hold of it
abbrev pub PlannedRunsInOrder : PlainCore → PlainPlan → Delays → Type 0
PlannedRunsInOrder core plan delays =
    (forms : PlainForms) (meets : List Meet) → HasPlan core forms meets plan → MeetsHold core meets
    → (input : PlainInput) (turns : ℕ) (h : History) (t : Store) → InputFits core input → run_core in_lanes turns core input ≡ went h t → Pairs (AreInOrder core) (core_timed core plan delays h).events
