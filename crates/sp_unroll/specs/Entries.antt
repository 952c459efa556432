-- What names stand for, as entries of which the latest counts: the lane of a counter, the number of a memory.
use Rattle.std.specs.Prelude.{ℕ, ◌==◌, List, [], ◌∷◌, Option, Some, None, if◌then◌else◌}
use Rattle.sp_core.specs.Declarations.{is_among}
use Rattle.sp_unroll.specs.declared.within.Entry.{Entry}
use Rattle.sp_unroll.specs.declared.within.Within.{Within}
use Rattle.sp_lanes.specs.Order.{occurrence}
use Rattle.sp_lanes.specs.Within as plain

-- what a number stands for after these entries
abbrev pub found_after : Option ℕ → List Entry → ℕ → Option ℕ
found_after was [] k = was
found_after was (e ∷ rest) k = found_after (if k == e.key then Some e.value else was) rest k

abbrev pub or_value : Option ℕ → ℕ → ℕ
or_value (Some n) other = n
or_value None other = other

unfoldable pub lane_in : List Entry → ℕ → ℕ
lane_in all c = or_value (found_after None all c) 0

-- a memory without an entry has the first number that stands for it in the order
unfoldable pub number_in : (order : List ℕ) → List Entry → ℕ → ℕ
number_in order all m = or_value (found_after None all m) (occurrence m 0 order)

-- memories that have their owner here stand for their copies of a number
abbrev pub owned_at : (order owned : List ℕ) → (copy : ℕ) → (ℕ → ℕ) → ℕ → ℕ
owned_at order owned copy numbers m = if is_among m owned then occurrence m copy order else numbers m

abbrev pub within_of : (order : List ℕ) → Within → plain.Within
within_of order w = record { lane = lane_in w.lanes.items; number = number_in order w.names.items; copy = w.copy }
