-- Stages in their places, as lists of lists of lists of their numbers.
use Rattle.std.specs.Prelude.{◌≡◌, ℕ, ◌<◌, List, [], ◌∷◌, length, map, Contains}
use Rattle.std.specs.List.{concat}
use Rattle.sp_time.specs.Beats.{Slot, slot_at}
use Rattle.sp_stage_members.specs.declared.placed.PlacedChain.{PlacedChain}
use Rattle.sp_stage_members.specs.declared.placed.PlacedSlot.{PlacedSlot}

abbrev pub chains_in : List PlacedChain → List (List ℕ)
chains_in chains = map (λ (c : PlacedChain). c.stages.items) chains

abbrev pub places_of : List PlacedSlot → List (List (List ℕ))
places_of placed = map (λ (slot : PlacedSlot). chains_in slot.chains.items) placed

-- all of them, slot by slot
abbrev pub stages_of : (places : List (List (List ℕ))) → List ℕ
stages_of places = concat (map (λ (chains : List (List ℕ)). concat chains) places)

-- no number comes twice
abbrev pub AreOnce : List ℕ → Type 0
AreOnce [] = Unit {0}
AreOnce (n ∷ ns) = (Contains ns n → ⊥) × AreOnce ns

-- each of so many stages stands in one place, and nothing else does
pub record StandOnce (stages : ℕ) (places : List (List (List ℕ))) : Type 0 where
  pub once : AreOnce (stages_of places)
  pub below : (s : ℕ) → Contains (stages_of places) s → s < stages
  pub all : (s : ℕ) → s < stages → Contains (stages_of places) s

-- some stage has this slot
abbrev pub HasStage : List Slot → (slot : ℕ) → Type 0
HasStage slots k = (s : ℕ) × (s < length slots) × ((slot_at slots s).slot ≡ k)
