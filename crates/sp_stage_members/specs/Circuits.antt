-- The members of a loop's circuit, by lists of nets for the lanes.
use Rattle.std.specs.Prelude.{◌≡◌, ℕ, ◌<◌, ◌≤◌, length, drop, map, true, List, [], ◌∷◌}
use Rattle.sp_netlist.specs.Draft.{Draft}
use Rattle.sp_netlist.specs.Signals.{Signals}
use Rattle.sp_gates.specs.Runs.{RunsOn}
use Rattle.sp_core.specs.Around.{lanes_of}
use Rattle.sp_core.specs.NodeRules.{are_lanes_right}
use Rattle.sp_core.specs.PlainCore.{PlainCounter, PlainStages}
use Rattle.sp_counters.specs.declared.part.Counted.{Counted}
use Rattle.sp_beat_words.specs.declared.part.Row.{Row}
use Rattle.sp_sequence.specs.declared.part.Slot.{Slot}
use Rattle.sp_plan.specs.Validity.{stage_count}
use Rattle.sp_node_runs.specs.BodiesRows.{wires_of}
use Rattle.sp_tree_circuits.specs.Circuits.{first_lane, last_lane, MemberCircuits}
use Rattle.sp_stage_members.specs.declared.part.StagePart.{StagePart}
use Rattle.sp_stage_members.specs.Members.{part_at, AreSlotsOf}

-- the nets for the lanes in a loop: those of its counters, and behind them those of each row
abbrev pub masks_in : Counted → List Row → List (List ℕ)
masks_in nets rows = nets.masks.items ∷ map (λ (row : Row). drop (length nets.counters.items) (wires_of row.wires.items)) rows

-- a loop without counters has none
abbrev pub AreMasksOf : List PlainCounter → Counted → List Row → List (List ℕ) → Type 0
AreMasksOf [] nets rows masks = Unit {0}
AreMasksOf (c ∷ counters) nets rows masks = masks ≡ masks_in nets rows

-- parts have the lanes of their stages; without counters all of these are lane 0
pub record HaveLanes (counters : List PlainCounter) (stages : PlainStages) (parts : List StagePart) : Type 0 where
  pub firsts : (i : ℕ) → first_lane stages i ≡ (part_at parts i).first
  pub lasts : (i : ℕ) → last_lane stages i ≡ (part_at parts i).last
  pub single : counters ≡ [] → (i : ℕ) → first_lane stages i ≡ 0

-- in each run of whatever the draft becomes each member is the stage of its place, and its net tells whether it is wanted
abbrev pub MembersAreCircuits : Type 0
MembersAreCircuits =
    (d : Draft) (counters : List PlainCounter) (stages : PlainStages) (nets : Counted) (rows : List Row) (masks : List (List ℕ)) (parts : List StagePart) (places : List (List (List ℕ))) (slots : List Slot) → HaveLanes counters stages parts
    → AreMasksOf counters nets rows masks → AreSlotsOf d masks parts places slots → (s : Signals) → RunsOn s d.cells → MemberCircuits s (λ i. (part_at parts i).child) counters stages nets rows places slots

-- the stages of a loop of one lane, as of one without counters, have lane 0
abbrev pub SingleLanesAreFirst : Type 0
SingleLanesAreFirst = (stages : PlainStages) → are_lanes_right (lanes_of []) stages ≡ true → (i : ℕ) → first_lane stages i ≡ 0

-- each stage has lanes of its loop
abbrev pub StagesHaveLanes : Type 0
StagesHaveLanes = (lanes : ℕ) (stages : PlainStages) → 1 ≤ lanes → are_lanes_right lanes stages ≡ true → (i : ℕ) → i < stage_count stages → (first_lane stages i ≤ last_lane stages i) × (last_lane stages i < lanes)
