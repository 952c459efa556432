-- How far the difference of two indices goes by the counters of each access's own: the size of each coefficient times the
-- greatest size of a value, summed up.
use Rattle.std.specs.Prelude.{ℕ, ◌+◌, ◌*◌, ◌==◌, max, Bool, ◌&&◌, not, if◌then◌else◌, ℤ, List, ◌∷◌, Option, Some, None, is_none, unsigned_abs}
use Rattle.sp_deps.specs.declared.access.LoopRange.{LoopRange}

-- a counter without a known range has no end, unless it doesn't count
abbrev pub part_reach : (size : ℕ) → Option (ℤ × ℤ) → Option ℕ
part_reach size None = if size == 0 then Some 0 else None
part_reach size (Some r) = Some (size * max (unsigned_abs r.0) (unsigned_abs r.1))

abbrev pub both_reach : Option ℕ → Option ℕ → Option ℕ
both_reach (Some m) (Some n) = Some (m + n)
both_reach _ _ = None

abbrev pub reach : List ℤ → List LoopRange → Option ℕ
reach (x ∷ xs) (l ∷ loops) = both_reach (part_reach (unsigned_abs x) l.from) (reach xs loops)
reach _ _ = Some 0

-- whether a counter without a known range counts
abbrev pub is_unbounded : ℤ → LoopRange → Bool
is_unbounded x l = is_none l.from && not (unsigned_abs x == 0)

-- the size of the coefficient of the first such counter
abbrev pub unbounded : List ℤ → List LoopRange → Option ℕ
unbounded (x ∷ xs) (l ∷ loops) = if is_unbounded x l then Some (unsigned_abs x) else unbounded xs loops
unbounded _ _ = None
