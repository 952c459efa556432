-- The nets of numbers by the memories.
use Rattle.std.specs.Prelude.{ℕ, zero, suc, ◌==◌, List, [], ◌∷◌, Option, None, if◌then◌else◌}
use Rattle.sp_tree_events.specs.CopiesStanding.{CopyNets}
use Rattle.sp_copy_nets.specs.declared.part.SlotNumbers.{SlotNumbers}

-- in a list with an entry for each memory
abbrev pub numbers_at : List (Option ℕ) → CopyNets
numbers_at [] m = None
numbers_at (net ∷ nets) zero = net
numbers_at (net ∷ nets) (suc m) = numbers_at nets m

-- in a list with an entry for each of these memories
abbrev pub own_numbers : (owned : List ℕ) → List (Option ℕ) → CopyNets
own_numbers (o ∷ owned) (net ∷ nets) m = if m == o then net else own_numbers owned nets m
own_numbers _ _ m = None

-- those of a slot
abbrev pub slot_numbers : List SlotNumbers → (slot : ℕ) → List (Option ℕ)
slot_numbers [] x = []
slot_numbers (slot ∷ slots) zero = slot.nets.items
slot_numbers (slot ∷ slots) (suc x) = slot_numbers slots x
