-- Worked places.
use Rattle.std.specs.Prelude.{◌≡◌, ℕ, List, [], ◌∷◌}
use Rattle.sp_machine.specs.Timeline.{slots_from}
use Rattle.sp_stage_places.specs.Arranged.{arranged}
use Rattle.sp_stage_members.specs.Placed.{stages_of}

-- of three stages the first and the last are in slot 0, in chains of their own, and the one between them in slot 1
abbrev pub three_slots : List ℕ
three_slots = 0 ∷ 1 ∷ 0 ∷ []

abbrev pub three_chains : List ℕ
three_chains = 0 ∷ 0 ∷ 2 ∷ []

abbrev pub three_places : List (List (List ℕ))
three_places = ((0 ∷ []) ∷ (2 ∷ []) ∷ []) ∷ ((1 ∷ []) ∷ []) ∷ []

pub record WorkedPlaces : Type 0 where
  pub places : arranged (slots_from three_slots three_chains) ≡ three_places
  pub stages : stages_of three_places ≡ 0 ∷ 2 ∷ 1 ∷ []
