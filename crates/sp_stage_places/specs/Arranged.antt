-- The stages of an outer body by slots, chains and members, from the slot and the chain of each stage.
use Rattle.std.specs.Prelude.{ℕ, zero, suc, ◌&&◌, ◌||◌, not, Bool, true, false, nat_eq, List, [], ◌∷◌, ◌++◌, length}
use Rattle.sp_time.specs.Beats.{Slot, slot_at, is_slot}
use Rattle.sp_part_runs.specs.SequencesPlaces.{stages_in, last_slot}

module _ (slots : List Slot) where
  -- whether one of the first stages is in this chain
  abbrev pub is_seen : Slot → (stages : ℕ) → Bool
  is_seen p zero = false
  is_seen p (suc n) = is_slot (slot_at slots n) p || is_seen p n

  -- whether a stage is the first one of a chain of this slot
  abbrev pub begins_chain : (slot stage : ℕ) → Bool
  begins_chain g s = nat_eq (slot_at slots s).slot g && not (is_seen (slot_at slots s) s)

  -- the chains of a slot, in the order of their first stages
  abbrev pub chains_of : (slot stages : ℕ) → List (List ℕ)
  chains_of g zero = []
  chains_of g (suc n) = elim (begins_chain g n) [ true ↦ chains_of g n ++ stages_in slots (slot_at slots n) (length slots) ∷ [] | false ↦ chains_of g n ]

  abbrev pub first_slots : (count : ℕ) → List (List (List ℕ))
  first_slots zero = []
  first_slots (suc g) = first_slots g ++ chains_of g (length slots) ∷ []

  abbrev pub arranged : List (List (List ℕ))
  arranged = first_slots (suc (last_slot slots))
