-- How often a run goes around, which no run of a program does oftener than it takes turns.
use Rattle.std.specs.Prelude.{ℕ, suc, pred, ◌+◌, true, false}
use Rattle.sp_core.specs.Cost.{group_count, sum_of}
use Rattle.sp_core.specs.PlainCore.{PlainNode, PlainStages, inner, outer, fsm, branch, load, store, sparse, more_stage}
use Rattle.sp_core.specs.Shape.{Shape, GroupShapes, StageShapes, BodyShapes, inner_shape, outer_shape, fsm_shape, branch_shape, words_shape, lanes_shape, no_group_shape, more_group_shape, masked_shape, more_stage_shape, no_body_shape, more_body_shape}

abbrev pub groups_in : GroupShapes → ℕ
groups_in no_group_shape = 0
groups_in (more_group_shape runs rest) = suc (groups_in rest)

-- a transfer, and each word that it moves
abbrev pub moves : Shape → ℕ
moves (words_shape w) = suc w
moves (lanes_shape ws) = suc (sum_of ws)
moves _ = 0

unfoldable mutual
  -- each group of iterations of a body but its first one, each turn of an FSM, each transfer and each of its words
  pub rounds : PlainNode → Shape → ℕ
  rounds (inner counters owned ops comb) (inner_shape counts) = pred (group_count counters counts)
  rounds (outer counters style owned stages) (outer_shape counts groups) = pred (groups_in groups) + group_rounds stages groups
  rounds (fsm start state test body next) (fsm_shape bodies) = turn_rounds body bodies
  rounds (branch test first second) (branch_shape true s) = rounds first s
  rounds (branch test first second) (branch_shape false s) = rounds second s
  rounds (load r m spans) s = moves s
  rounds (store r m spans) s = moves s
  rounds (sparse kind r m places spans count par) s = moves s
  rounds _ _ = 0

  pub group_rounds : PlainStages → GroupShapes → ℕ
  group_rounds stages no_group_shape = 0
  group_rounds stages (more_group_shape runs rest) = stage_rounds stages runs + group_rounds stages rest

  pub stage_rounds : PlainStages → StageShapes → ℕ
  stage_rounds (more_stage first last comb node rest) (more_stage_shape s shapes) = rounds node s + stage_rounds rest shapes
  stage_rounds (more_stage first last comb node rest) (masked_shape shapes) = stage_rounds rest shapes
  stage_rounds _ _ = 0

  pub turn_rounds : PlainNode → BodyShapes → ℕ
  turn_rounds body no_body_shape = 0
  turn_rounds body (more_body_shape s rest) = suc (rounds body s) + turn_rounds body rest
