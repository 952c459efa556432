-- Laws of stages in their places, as statements.
use Rattle.std.specs.Prelude.{◌≡◌, ℕ, ◌<◌, ◌≤◌, List, [], ◌∷◌, length}
use Rattle.sp_time.specs.Beats.{Slot, slot_at}
use Rattle.sp_part_runs.specs.SequencesPlaces.{AreArranged, last_slot}
use Rattle.sp_stage_places.specs.Arranged.{arranged}

-- where no slot is without a stage, each stage has its place
abbrev pub StagesAreArranged : Type 0
StagesAreArranged = (slots : List Slot) → ((k : ℕ) → k ≤ last_slot slots → (s : ℕ) × (s < length slots) × ((slot_at slots s).slot ≡ k)) → AreArranged (arranged slots) slots

-- four stages: two in one chain, one beside them, and one in the second slot
abbrev pub WorkedPlaces : Type 0
WorkedPlaces =
    arranged (record { slot = 0; chain = 0 } ∷ record { slot = 0; chain = 1 } ∷ record { slot = 0; chain = 0 } ∷ record { slot = 1; chain = 3 } ∷ []) ≡ ((0 ∷ 2 ∷ []) ∷ (1 ∷ []) ∷ []) ∷ ((3 ∷ []) ∷ []) ∷ []
