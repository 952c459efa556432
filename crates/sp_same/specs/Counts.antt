-- What is counted in a run, in the order of the text: how many words each counter of a loop has, how many turns an FSM
-- takes, which block of a branch is taken, and how many words each lane of a transfer moves.
use Rattle.std.specs.Prelude.{ℕ, suc, Bool, true, false, List, [], ◌∷◌, ◌++◌}
use Rattle.sp_tree.specs.Shape as program
use Rattle.sp_tree.specs.Shape.{ran, looped, turned, branched, moved, no_shape, more_shape}
use Rattle.sp_core.specs.PlainCore.{PlainNode, PlainStages, inner, outer, fsm, branch, more_stage}
use Rattle.sp_core.specs.Shape as core
use Rattle.sp_core.specs.Shape.{inner_shape, outer_shape, fsm_shape, branch_shape, words_shape, lanes_shape, no_group_shape, more_group_shape, no_stage_shape, masked_shape, more_stage_shape, no_body_shape, more_body_shape}

pub data Count : Type 0 where
  loop : (counts : List ℕ) → Count
  turns : ℕ → Count
  taken : Bool → Count
  words : (lanes : List ℕ) → Count

-- by the shape of a program's run
unfoldable mutual
  pub counts_in : program.Shape → List Count
  counts_in (ran body) = counts_in_all body
  counts_in (looped counts bodies) = loop counts ∷ counts_in_all bodies
  counts_in (turned n bodies) = turns n ∷ counts_in_all bodies
  counts_in (branched first body) = taken first ∷ counts_in body
  counts_in (moved lanes) = words lanes ∷ []

  pub counts_in_all : program.Shapes → List Count
  counts_in_all no_shape = []
  counts_in_all (more_shape s rest) = counts_in s ++ counts_in_all rest

abbrev pub turn_count : core.BodyShapes → ℕ
turn_count no_body_shape = 0
turn_count (more_body_shape s rest) = suc (turn_count rest)

-- by a node and the shape of its run: a node without counters is no loop, and a combination, which no program has as a part
-- of its own, counts nothing
unfoldable mutual
  pub counts_of : PlainNode → core.Shape → List Count
  counts_of (inner [] owned ops comb) (inner_shape counts) = []
  counts_of (inner (c ∷ loops) owned ops comb) (inner_shape counts) = loop counts ∷ []
  counts_of (outer [] style owned stages) (outer_shape counts groups) = group_counts stages groups
  counts_of (outer (c ∷ loops) style owned stages) (outer_shape counts groups) = loop counts ∷ group_counts stages groups
  counts_of (fsm start state test body next) (fsm_shape bodies) = turns (turn_count bodies) ∷ body_counts body bodies
  counts_of (branch test first second) (branch_shape true s) = taken true ∷ counts_of first s
  counts_of (branch test first second) (branch_shape false s) = taken false ∷ counts_of second s
  counts_of node (words_shape n) = words (n ∷ []) ∷ []
  counts_of node (lanes_shape ns) = words ns ∷ []
  counts_of _ _ = []

  pub group_counts : PlainStages → core.GroupShapes → List Count
  group_counts stages no_group_shape = []
  group_counts stages (more_group_shape s rest) = stage_counts stages s ++ group_counts stages rest

  pub stage_counts : PlainStages → core.StageShapes → List Count
  stage_counts (more_stage first last true node rest) (more_stage_shape s others) = stage_counts rest others
  stage_counts (more_stage first last false node rest) (more_stage_shape s others) = counts_of node s ++ stage_counts rest others
  stage_counts (more_stage first last comb node rest) (masked_shape others) = stage_counts rest others
  stage_counts _ _ = []

  pub body_counts : PlainNode → core.BodyShapes → List Count
  body_counts body no_body_shape = []
  body_counts body (more_body_shape s rest) = counts_of body s ++ body_counts body rest
