-- Runs of nodes whose histories fit, as statements: they are of the kind of their node, histories of their parts fit, and stages take
-- time.
use Rattle.std.specs.Prelude.{◌≡◌, ℕ, true, false, List, [], ◌∷◌, length}
use Rattle.sp_words.specs.declared.kind.Style.{Style}
use Rattle.sp_core.specs.PlainCore.{PlainOp, PlainCounter, PlainNode, PlainStages, outer, fsm, branch, PlainCore}
use Rattle.sp_fitting.specs.Fitting.{HistoryFits}
use Rattle.sp_plan.specs.PlainPlan.{PlainPlan, node_plan}
use Rattle.sp_plan.specs.Validity.{stage_count}
use Rattle.sp_machine.specs.Timeline.{slots_of}
use Rattle.sp_machine.specs.Transfers.{Delays}
use Rattle.sp_overlap.specs.Whole.{AreTimed}
use Rattle.sp_part_runs.specs.SequencesPlaces.{AreArranged}
use Rattle.sp_node_runs.specs.Runs.{Placed, side_runs, body_runs, stage_at, stage_runs}
use Rattle.sp_node_runs.specs.ControlBeating.{AreOuters, TakeTime}
use Rattle.sp_node_runs.specs.ControlRuns.{AreBranches, AreMachines}

module _ (core : PlainCore) (plan : PlainPlan) (delays : Delays) where
  -- of each run the history fits the node
  abbrev pub AllFit : PlainNode → List Placed → Type 0
  AllFit node [] = Unit {0}
  AllFit node (r ∷ runs) = HistoryFits core node r.history × AllFit node runs

  pub record PartsFit : Type 0 where
    pub branches : (k : ℕ) (test : List PlainOp) (first second : PlainNode) (runs : List Placed) → AllFit (branch test first second) runs
        → AreBranches core plan delays runs × AllFit first (side_runs core plan delays test k true runs) × AllFit second (side_runs core plan delays test k false runs)
    pub machines : (k n : ℕ) (start : List PlainOp) (state : ℕ) (test : List PlainOp) (body : PlainNode) (next : List PlainOp) (runs : List Placed) → AllFit (fsm start state test body next) runs
        → AreMachines core plan delays runs × AllFit body (body_runs core plan delays start test next body k n runs)
    pub outers : (k n : ℕ) (counters : List PlainCounter) (style : Style) (owned : List ℕ) (stages : PlainStages) (runs : List Placed) → AllFit (outer counters style owned stages) runs
        → AreOuters runs × ((s : ℕ) → AllFit (stage_at stages s) (stage_runs core plan delays counters owned stages k n s runs))

  -- of stages without `Stream` blocks and sparse transfers, each with a slot
  abbrev pub StagesTakeTime : Type 0
  StagesTakeTime =
      (k n : ℕ) (counters : List PlainCounter) (style : Style) (owned : List ℕ) (stages : PlainStages) (places : List (List (List ℕ))) (runs : List Placed) → AllFit (outer counters style owned stages) runs
      → AreTimed stages → AreArranged places (slots_of (node_plan plan k)) → length (slots_of (node_plan plan k)) ≡ stage_count stages → TakeTime core plan delays k n counters owned stages places runs
