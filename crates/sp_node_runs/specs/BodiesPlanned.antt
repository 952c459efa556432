-- How a plan paces the inner bodies of a part.
use Rattle.std.specs.Prelude.{ℕ, suc, ◌+◌, List}
use Rattle.sp_core.specs.declared.access.Meet.{Meet}
use Rattle.sp_core.specs.Forms.{PlainForms}
use Rattle.sp_core.specs.Numbering.{node_count}
use Rattle.sp_core.specs.PlainCore.{PlainNode, PlainStages, inner, outer, fsm, branch, no_stage, more_stage, PlainCore}
use Rattle.sp_plan.specs.PlainPlan.{PlainPlan, node_plan}
use Rattle.sp_plan.specs.Validity.{IsValid}
use Rattle.sp_overlap.specs.Whole.{IsTimed}
use Rattle.sp_node_runs.specs.Bodies.{IsPaced}

-- of each inner body in a part, by the number of the part's first node
module _ (core : PlainCore) (plan : PlainPlan) where
  abbrev mutual
    pub AllPaced : PlainNode → (node : ℕ) → Type 0
    AllPaced (inner counters owned ops comb) k = IsPaced core ops (node_plan plan k)
    AllPaced (outer counters style owned stages) k = StagesPaced stages (suc k)
    AllPaced (fsm start state test body next) k = AllPaced body (suc k)
    AllPaced (branch test first second) k = AllPaced first (suc k) × AllPaced second (suc k + node_count first)
    AllPaced _ k = Unit {0}

    pub StagesPaced : PlainStages → (node : ℕ) → Type 0
    StagesPaced no_stage k = Unit {0}
    StagesPaced (more_stage first last comb node rest) k = AllPaced node k × StagesPaced rest (k + node_count node)

-- by each plan that is valid for a core without `Stream` blocks and sparse transfers
abbrev pub PlansArePaced : Type 0
PlansArePaced = (core : PlainCore) (forms : PlainForms) (meets : List Meet) (plan : PlainPlan) → IsTimed core.root → IsValid core forms meets plan → AllPaced core plan core.root 0
