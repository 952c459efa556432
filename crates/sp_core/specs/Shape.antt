-- How often things were done in a run: its history without words.
use Rattle.std.specs.Prelude.{ℕ, ◌+◌, ◌-◌, ◌*◌, ◌/◌, Bool, List, [], ◌∷◌, map, length}
use Rattle.sp_core.specs.Elements.{numbers_below}
use Rattle.sp_core.specs.History.{History, Groups, Runs, Turns, inner_ran, outer_ran, fsm_ran, branch_ran, moved, picked, no_group, more_group, masked_run, more_run, no_turn, more_turn}
use Rattle.sp_core.specs.PlainCore.{PlainNode, PlainStages, inner, outer, fsm, branch, sparse, more_stage}
use Rattle.sp_core.specs.Transfers.{part_of, lengths}

mutual
  pub data Shape : Type 0 where
    -- how many values each counter had
    inner_shape : (counts : List ℕ) → Shape
    -- the same, and for each group the stages
    outer_shape : (counts : List ℕ) → GroupShapes → Shape
    -- the bodies of its turns
    fsm_shape : BodyShapes → Shape
    branch_shape : (taken : Bool) → Shape → Shape
    -- how many words a transfer moved, and each lane of one of several
    words_shape : ℕ → Shape
    lanes_shape : List ℕ → Shape

  pub data GroupShapes : Type 0 where
    no_group_shape : GroupShapes
    more_group_shape : StageShapes → GroupShapes → GroupShapes

  pub data StageShapes : Type 0 where
    no_stage_shape : StageShapes
    masked_shape : StageShapes → StageShapes
    more_stage_shape : Shape → StageShapes → StageShapes

  pub data BodyShapes : Type 0 where
    no_body_shape : BodyShapes
    more_body_shape : Shape → BodyShapes → BodyShapes

-- n / m, rounded up
abbrev pub ceil_div : ℕ → ℕ → ℕ
ceil_div n m = (n + (m - 1)) / m

-- of so many lanes each moves, in every row of a slice, the words at its own number and each so many further
abbrev pub lane_words : (rows columns par lane : ℕ) → ℕ
lane_words rows columns par lane = rows * ceil_div (columns - lane) par

abbrev pub last_length : List ℕ → ℕ
last_length [] = 1
last_length (n ∷ []) = n
last_length (n ∷ ns) = last_length ns

abbrev pub row_count : List ℕ → ℕ
row_count [] = 1
row_count (n ∷ []) = 1
row_count (n ∷ ns) = n * row_count ns

abbrev pub wide_shape : (par : ℕ) → List ℕ → Shape
wide_shape par ns = lanes_shape (map (lane_words (row_count ns) (last_length ns) par) (numbers_below par))

unfoldable mutual
  pub shape_of : PlainNode → History → Shape
  shape_of (inner counters owned ops comb) (inner_ran bounds counts groups) = inner_shape counts
  shape_of (outer counters style owned stages) (outer_ran bounds counts groups) = outer_shape counts (group_shapes stages groups)
  shape_of (fsm start state test body next) (fsm_ran first ts last) = fsm_shape (body_shapes body ts)
  shape_of (branch test first second) (branch_ran es Bool.true h) = branch_shape Bool.true (shape_of first h)
  shape_of (branch test first second) (branch_ran es Bool.false h) = branch_shape Bool.false (shape_of second h)
  shape_of (sparse kind r m places spans count par) (moved taken words) = wide_shape par (lengths (map part_of taken))
  shape_of node (moved taken words) = words_shape (length words)
  shape_of node (picked es words) = words_shape (length words)
  shape_of _ _ = words_shape 0

  pub group_shapes : PlainStages → Groups → GroupShapes
  group_shapes stages no_group = no_group_shape
  group_shapes stages (more_group runs rest) = more_group_shape (stage_shapes stages runs) (group_shapes stages rest)

  pub stage_shapes : PlainStages → Runs → StageShapes
  stage_shapes (more_stage first last comb node rest) (more_run h hs) = more_stage_shape (shape_of node h) (stage_shapes rest hs)
  stage_shapes (more_stage first last comb node rest) (masked_run hs) = masked_shape (stage_shapes rest hs)
  stage_shapes _ _ = no_stage_shape

  pub body_shapes : PlainNode → Turns → BodyShapes
  body_shapes body no_turn = no_body_shape
  body_shapes body (more_turn es h ns rest) = more_body_shape (shape_of body h) (body_shapes body rest)
