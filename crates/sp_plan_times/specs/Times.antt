-- By its plan an inner body has the time that its operations take.
use Rattle.std.specs.Prelude.{◌≡◌, ℕ, suc, ◌+◌, ◌<◌, ◌^◌, List, length, slice_index}
use Rattle.sp_core.specs.declared.access.Meet.{Meet}
use Rattle.sp_core.specs.Forms.{PlainForms}
use Rattle.sp_core.specs.Invariant.{IsCore}
use Rattle.sp_core.specs.Numbering.{node_count}
use Rattle.sp_core.specs.PlainCore.{PlainOp, PlainNode, PlainStages, inner, outer, fsm, branch, no_stage, more_stage, PlainCore}
use Rattle.sp_plan.specs.PlainPlan.{PlainNodePlan, PlainPlan, node_plan}
use Rattle.sp_plan.specs.Validity.{IsValid}
use Rattle.sp_circuit_ops.specs.Fitting.{LeaveTime}
use Rattle.sp_machine.specs.Timeline.{times_of, latency_of}
use Rattle.sp_overlap.specs.Whole.{IsTimed}
use Rattle.sp_node_runs.specs.Bodies.{IsPaced}

-- a time for each operation; a word is there when it is used; and a body that is over at once has nothing that takes time
pub record HasTime (core : PlainCore) (ops : List PlainOp) (p : PlainNodePlan) : Type 0 where
  pub each : length (times_of p) ≡ length ops
  pub leaves : LeaveTime core ops (slice_index (times_of p))
  pub paced : IsPaced core ops p

-- so it is of each inner body in a part, by the number of the part's first node
module _ (core : PlainCore) (plan : PlainPlan) where
  abbrev mutual
    pub AllHaveTime : PlainNode → (node : ℕ) → Type 0
    AllHaveTime (inner counters owned ops comb) k = HasTime core ops (node_plan plan k)
    AllHaveTime (outer counters style owned stages) k = StagesHaveTime stages (suc k)
    AllHaveTime (fsm start state test body next) k = AllHaveTime body (suc k)
    AllHaveTime (branch test first second) k = AllHaveTime first (suc k) × AllHaveTime second (suc k + node_count first)
    AllHaveTime _ k = Unit {0}

    pub StagesHaveTime : PlainStages → (node : ℕ) → Type 0
    StagesHaveTime no_stage k = Unit {0}
    StagesHaveTime (more_stage first last comb node rest) k = AllHaveTime node k × StagesHaveTime rest (k + node_count node)

-- in each plan that is valid for a core without `Stream` blocks and sparse transfers, whose latencies are numbers of 32 bits
abbrev pub PlansLeaveTime : Type 0
PlansLeaveTime =
    (core : PlainCore) (forms : PlainForms) (meets : List Meet) (plan : PlainPlan) → IsCore core → IsTimed core.root → IsValid core forms meets plan → ((k : ℕ) → latency_of (node_plan plan k) < 2 ^ 32) → AllHaveTime core plan core.root 0
