-- The stages of each outer body of a core in places, by a plan.
use Rattle.std.specs.Prelude.{◌≡◌, ℕ, suc, ◌+◌, List, length}
use Rattle.sp_core.specs.declared.access.Meet.{Meet}
use Rattle.sp_core.specs.Forms.{PlainForms}
use Rattle.sp_core.specs.Invariant.{IsCore}
use Rattle.sp_core.specs.Numbering.{node_count}
use Rattle.sp_core.specs.PlainCore.{PlainNode, PlainStages, outer, fsm, branch, no_stage, more_stage, PlainCore}
use Rattle.sp_plan.specs.PlainPlan.{PlainPlan, node_plan}
use Rattle.sp_plan.specs.Validity.{stage_count, IsValid}
use Rattle.sp_time.specs.Beats.{Slot}
use Rattle.sp_machine.specs.Timeline.{slots_of}
use Rattle.sp_overlap.specs.Whole.{IsTimed}
use Rattle.sp_part_runs.specs.SequencesPlaces.{AreArranged}
use Rattle.sp_stage_places.specs.Arranged.{arranged}

-- a slot for each of so many stages, and none without a stage
pub record HavePlaces (slots : List Slot) (stages : ℕ) : Type 0 where
  pub size : length slots ≡ stages
  pub places : AreArranged (arranged slots) slots

-- of each outer body in a part, by the number of the part's first node
module _ (plan : PlainPlan) where
  abbrev mutual
    pub AllHavePlaces : PlainNode → (node : ℕ) → Type 0
    AllHavePlaces (outer counters style owned stages) k = HavePlaces (slots_of (node_plan plan k)) (stage_count stages) × StagesHavePlaces stages (suc k)
    AllHavePlaces (fsm start state test body next) k = AllHavePlaces body (suc k)
    AllHavePlaces (branch test first second) k = AllHavePlaces first (suc k) × AllHavePlaces second (suc k + node_count first)
    AllHavePlaces _ k = Unit {0}

    pub StagesHavePlaces : PlainStages → (node : ℕ) → Type 0
    StagesHavePlaces no_stage k = Unit {0}
    StagesHavePlaces (more_stage first last comb node rest) k = AllHavePlaces node k × StagesHavePlaces rest (k + node_count node)

-- in each plan that is valid for a core without `Stream` blocks and sparse transfers
abbrev pub PlansHavePlaces : Type 0
PlansHavePlaces = (core : PlainCore) (forms : PlainForms) (meets : List Meet) (plan : PlainPlan) → IsCore core → IsTimed core.root → IsValid core forms meets plan → AllHavePlaces plan core.root 0
