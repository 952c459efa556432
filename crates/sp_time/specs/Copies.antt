-- Copies of the memories that a body declares.
use Rattle.std.specs.Prelude.{ℕ, zero, suc, ◌+◌, ◌*◌, ◌%◌, ◌==◌, cond, List, [], ◌∷◌}
use Rattle.sp_time.specs.Events.{Event}
use Rattle.sp_time.specs.Places.{Place, Act}

-- a memory that a body declares has so many copies
pub record Owned : Type 0 where
  pub mem : ℕ
  pub copies : ℕ

abbrev pub copies_of : List Owned → ℕ → ℕ
copies_of [] m = 0
copies_of (o ∷ rest) m = cond (o.mem == m) o.copies (copies_of rest m)

-- a group has the copy of its number, modulo how many there are; a memory that is declared in a body inside stands there
-- with its own copies in each of these
abbrev pub copy_in : (copies group : ℕ) → Place → Place
copy_in zero k p = p
copy_in (suc n) k p = record p { copy = p.copy * suc n + k % suc n }

abbrev pub in_group : List Owned → ℕ → Event Place Act → Event Place Act
in_group owned k e = record e { place = copy_in (copies_of owned e.place.mem) k e.place }

-- an event so many cycles later
abbrev pub later : ℕ → Event Place Act → Event Place Act
later n e = record e { cycle = n + e.cycle }
