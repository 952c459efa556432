-- Accesses, and the ranges of counters, as plain values.
use Rattle.std.specs.Prelude.{ℕ, ◌*◌, ◌/◌, ◌==◌, Bool, ◌&&◌, ◌||◌, ℤ, pos, ◌-ℤ◌, List, Option, Some, None, option_map, IfSome, max, unsigned_abs}
use Rattle.sp_affine.specs.Affine.{Affine}
use Rattle.sp_affine.specs.Interval.{IsCounterRange}
use Rattle.sp_deps.specs.declared.access.Access.{Access}
use Rattle.sp_deps.specs.declared.access.LoopRange.{LoopRange}
use Rattle.sp_deps.specs.declared.sum.Range.{Range}

-- an access: the number of its memory, whether it writes it, and a form for each index, where all have one
pub record PlainAccess : Type 0 where
  pub mem : ℕ
  pub writes : Bool
  pub forms : Option (List Affine)

abbrev pub plain_access : Access → PlainAccess
plain_access a = record { mem = a.mem; writes = a.writes; forms = option_map (λ v. v.items) a.forms }

-- two accesses can meet only on one memory, and where one of them writes
abbrev pub can_meet : PlainAccess → PlainAccess → Bool
can_meet a b = (a.mem == b.mem) && (a.writes || b.writes)

-- the values of a counter
abbrev pub range_between : Option (ℤ × ℤ) → Range
range_between None = record { least = None; greatest = None }
range_between (Some r) = record { least = Some r.0; greatest = Some r.1 }

abbrev pub range_of : LoopRange → Range
range_of l = range_between l.from

-- how many steps a counter goes on within its range: at least 1, and without end where the range isn't known
abbrev pub most_steps : Option (ℤ × ℤ) → ℕ → Option ℤ
most_steps None by = None
most_steps (Some r) by = Some (pos (max 1 (unsigned_abs (r.1 -ℤ r.0) / by)))

abbrev pub steps_of : LoopRange → Range
steps_of l = record { least = Some (pos 1); greatest = most_steps l.from l.by }

-- from one group to the next the last counter goes on by as many steps as are taken at once
abbrev pub advance : LoopRange → ℕ
advance l = l.by * l.par

-- a range that is known goes up, and has both its ends from -2^52 to 2^52
abbrev pub HasRange : LoopRange → Type 0
HasRange l = IfSome l.from IsCounterRange
