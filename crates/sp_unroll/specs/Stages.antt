-- Stages in front of others; the stages of a controller in its lanes.
use Rattle.std.specs.Prelude.{ℕ, ◌==◌, true, false, List, [], ◌∷◌, map, option_map}
use Rattle.sp_core.specs.Around.{lanes_of}
use Rattle.sp_core.specs.Elements.{numbers_below}
use Rattle.sp_core.specs.declared.node.Stage.{Stage}
use Rattle.sp_core.specs.Plain.{plain_node}
use Rattle.sp_core.specs.PlainCore.{PlainCounter, PlainStages, more_stage}
use Rattle.sp_lanes.specs.Unrolled.{stages_by_lane, stage_after, combination_of, combination_in, left_as_they_are, nodes_in}
use Rattle.sp_lanes.specs.Within.{Within, in_lane}

unfoldable pub onto : List Stage → PlainStages → PlainStages
onto [] rest = rest
onto (s ∷ stages) rest = more_stage s.first s.last s.comb (plain_node s.node) (onto stages rest)

module _ (order : List ℕ) (w : Within) (counters : List PlainCounter) (owned : List ℕ) where
  abbrev pub lane_stages : (lanes : ℕ) → PlainStages → PlainStages → PlainStages
  lane_stages lanes stages rest = stages_by_lane 0 (map (λ l. nodes_in order (in_lane order counters owned w l) stages) (numbers_below lanes)) rest

  abbrev pub outer_stages : PlainStages → PlainStages
  outer_stages stages = elim (lanes_of counters == 1) [
    | true ↦ left_as_they_are order (in_lane order counters owned w 0) stages
    | false ↦ lane_stages (lanes_of counters) stages (stage_after (lanes_of counters) (option_map (combination_in order w counters owned) (combination_of stages)))
  ]
