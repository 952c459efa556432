-- How slots are run one after the other.
use Rattle.std.specs.Prelude.{◌≡◌, ℕ, ◌<◌, Bool, List, [], ◌∷◌, length, slice_index}
use Rattle.sp_netlist.specs.Draft.{Draft}
use Rattle.sp_netlist.specs.Signals.{Signals}
use Rattle.sp_gates.specs.Nets.{HasNet}
use Rattle.sp_gates.specs.Tested.{is_on}
use Rattle.sp_sequence.specs.declared.part.Slot.{Slot}
use Rattle.sp_sequence.specs.Members.{IsAfter}
use Rattle.sp_sequence.specs.Joins.{is_end, chains_over, ChainsStart}

-- the end of a slot that has these first cycles
abbrev pub slot_end : Signals → (first : ℕ → Bool) → Slot → (cycle : ℕ) → Bool
slot_end s first slot = is_end first (chains_over s first slot.chains.items)

-- A slot's first cycle is the one after what tells its turn, its chains start from there, and its end tells the next one; after
-- the last one all is done.
pub data RunsSlots (s : Signals) : (cause : ℕ → Bool) → List Slot → (firsts : List ℕ) → (done : ℕ → Bool) → Type 0 where
  ended : {cause done : ℕ → Bool} → IsAfter done cause → RunsSlots s cause [] [] done
  begun : {cause done : ℕ → Bool} {slot : Slot} {slots : List Slot} {first : ℕ} {firsts : List ℕ} → IsAfter (is_on s first) cause → ChainsStart s (is_on s first) slot.chains.items
      → RunsSlots s (slot_end s (is_on s first) slot) slots firsts done → RunsSlots s cause (slot ∷ slots) (first ∷ firsts) done

-- a net of one bit for the first cycle of each slot
pub record AreFirsts (d : Draft) (slots : List Slot) (firsts : List ℕ) : Type 0 where
  pub each : length firsts ≡ length slots
  pub nets : (k : ℕ) → k < length slots → HasNet d (slice_index firsts k) 1
