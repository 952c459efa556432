-- Two slots of a loop under one counter in two lanes, whose values and masks go along in two rows.
use Rattle.std.specs.Prelude.{◌≡◌, true, [], ◌∷◌, drop, length, None}
use Rattle.sp_beat_words.specs.declared.part.Row.{Row}
use Rattle.sp_counters.specs.declared.part.Counted.{Counted}
use Rattle.sp_core.specs.PlainCore.{PlainStages, inner, no_stage, more_stage}
use Rattle.sp_node_runs.specs.BodiesRows.{wires_of}
use Rattle.sp_tree_circuits.specs.Circuits.{first_lane, last_lane, masks_told}

-- a stage of both lanes, and one of the second lane
abbrev pub stages : PlainStages
stages = more_stage 0 1 true (inner [] [] [] None) (more_stage 1 1 true (inner [] [] [] None) no_stage)

-- by which masks members are told whether they are wanted
pub record WorkedMasks (nets : Counted) (a b : Row) : Type 0 where
  pub first_slot : masks_told nets (a ∷ b ∷ []) 0 0 ≡ nets.masks.items
  pub second_slot : masks_told nets (a ∷ b ∷ []) 1 0 ≡ drop (length nets.counters.items) (wires_of a.wires.items)
  pub later_member : masks_told nets (a ∷ b ∷ []) 1 1 ≡ drop (length nets.counters.items) (wires_of b.wires.items)
  pub first_lanes : (first_lane stages 0 ≡ 0) × (last_lane stages 0 ≡ 1)
  pub second_lanes : (first_lane stages 1 ≡ 1) × (last_lane stages 1 ≡ 1)
