-- How a loop goes in beats: equations of its nets over time, whatever the words of others.
use Rattle.std.specs.Prelude.{◌≡◌, ℕ, zero, suc, Bool, true, false, ◌&&◌, ◌||◌, not, List, [], ◌∷◌}
use Rattle.sp_netlist.specs.Signals.{Signals}
use Rattle.sp_gates.specs.Tested.{is_on}
use Rattle.sp_sequence.specs.declared.part.Slot.{Slot}
use Rattle.sp_sequence.specs.Joins.{is_end, chains_over, ChainsStart}
use Rattle.sp_sequence.specs.Members.{IsAfter}

-- whether a slot has a group: in each step it gets the one that comes, if one does, and a start takes all away
unfoldable pub has_group : (start step comes : ℕ → Bool) → (cycle : ℕ) → Bool
has_group start step comes zero = false
has_group start step comes (suc t) = ((step t && comes t) || (not (step t) && has_group start step comes t)) && not (start t)

-- a slot's first cycle of a beat is a step in which a group comes to it
abbrev pub gets_group : (step comes : ℕ → Bool) → (cycle : ℕ) → Bool
gets_group step comes t = step t && comes t

-- Slots from one on: to the first of them a group comes where `comes` says so, and to each other one that of the slot before it.
module _ (start step : ℕ → Bool) where
  -- whether a group comes to one of them
  abbrev pub some_comes : (comes : ℕ → Bool) → List Slot → (cycle : ℕ) → Bool
  some_comes comes [] t = false
  some_comes comes (slot ∷ slots) t = comes t || some_comes (has_group start step comes) slots t

  -- whether all of them are over in this beat: one that has no group is
  abbrev pub slots_over : Signals → (comes : ℕ → Bool) → List Slot → (cycle : ℕ) → Bool
  slots_over s comes [] t = true
  slots_over s comes (slot ∷ slots) t = (chains_over s (gets_group step comes) slot.chains.items t || not (has_group start step comes t)) && slots_over s (has_group start step comes) slots t

  -- their chains start from their first cycles
  pub data StartsSlots (s : Signals) : (comes : ℕ → Bool) → List Slot → (firsts : List ℕ) → Type 0 where
    no_slot : {comes : ℕ → Bool} → StartsSlots s comes [] []
    one_slot : {comes : ℕ → Bool} {slot : Slot} {slots : List Slot} {first : ℕ} {firsts : List ℕ} → ((t : ℕ) → is_on s first t ≡ gets_group step comes t) → ChainsStart s (is_on s first) slot.chains.items
        → StartsSlots s (has_group start step comes) slots firsts → StartsSlots s comes (slot ∷ slots) (first ∷ firsts)

-- A step comes in the cycle after the start and after the end of each beat. With a group that comes to some slot it is the first
-- cycle of a beat, and else the end of all.
pub record RunsBeats (s : Signals) (start more step : ℕ → Bool) (slots : List Slot) (firsts : List ℕ) (done : ℕ → Bool) : Type 0 where
  pub steps : IsAfter step (λ t. start t || is_end (λ u. step u && some_comes start step more slots u) (slots_over start step s more slots) t)
  pub starts : StartsSlots start step s more slots firsts
  pub ends : (t : ℕ) → done t ≡ (step t && not (some_comes start step more slots t))

-- what one slot does
pub record RunsSlot (s : Signals) (start step comes : ℕ → Bool) (slot : Slot) (first has over : ℕ) : Type 0 where
  pub gets : (t : ℕ) → is_on s first t ≡ gets_group step comes t
  pub keeps : (t : ℕ) → is_on s has t ≡ has_group start step comes t
  pub starts : ChainsStart s (is_on s first) slot.chains.items
  pub ends : (t : ℕ) → is_on s over t ≡ (chains_over s (is_on s first) slot.chains.items t || not (has_group start step comes t))
