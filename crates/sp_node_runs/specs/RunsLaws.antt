-- The runs of the parts of a node, as statements.
use Rattle.std.specs.Prelude.{ℕ, suc, ◌+◌, ◌<◌, true, false, List, length}
use Rattle.sp_words.specs.declared.kind.Style.{Style}
use Rattle.sp_core.specs.Numbering.{counters_size, node_count, number_count}
use Rattle.sp_core.specs.PlainCore.{PlainOp, PlainCounter, PlainNode, PlainStages, outer, fsm, branch, PlainCore}
use Rattle.sp_plan.specs.PlainPlan.{PlainPlan, node_plan}
use Rattle.sp_machine.specs.Timeline.{slots_of}
use Rattle.sp_machine.specs.Transfers.{Delays}
use Rattle.sp_node_runs.specs.Runs.{Placed, AreWithin, side_runs, body_runs, stage_at, node_at, number_at, stage_runs}

module _ (core : PlainCore) (plan : PlainPlan) (delays : Delays) where
  -- where runs of a branch come one after the other, so do those of its sides
  abbrev pub SidesComeInTurn : Type 0
  SidesComeInTurn =
      (k n : ℕ) (test : List PlainOp) (first second : PlainNode) (from until : ℕ) (runs : List Placed) → AreWithin core plan delays (branch test first second) k n from until runs
      → AreWithin core plan delays first (suc k) (n + length test) from until (side_runs core plan delays test k true runs)
      × AreWithin core plan delays second (suc k + node_count first) (n + (length test + number_count first)) from until (side_runs core plan delays test k false runs)

  -- and those of the body of an FSM
  abbrev pub BodiesComeInTurn : Type 0
  BodiesComeInTurn =
      (k n : ℕ) (start : List PlainOp) (state : ℕ) (test : List PlainOp) (body : PlainNode) (next : List PlainOp) (from until : ℕ) (runs : List Placed) → AreWithin core plan delays (fsm start state test body next) k n from until runs
      → AreWithin core plan delays body (suc k) (n + (length start + length test)) from until (body_runs core plan delays start test next body k n runs)

  -- and those of a stage of an outer body that has a slot
  abbrev pub StagesComeInTurn : Type 0
  StagesComeInTurn =
      (k n : ℕ) (counters : List PlainCounter) (style : Style) (owned : List ℕ) (stages : PlainStages) (s : ℕ) → s < length (slots_of (node_plan plan k))
      → (from until : ℕ) (runs : List Placed) → AreWithin core plan delays (outer counters style owned stages) k n from until runs
      → AreWithin core plan delays (stage_at stages s) (node_at stages (suc k) s) (number_at stages (n + counters_size counters) s) from until (stage_runs core plan delays counters owned stages k n s runs)
