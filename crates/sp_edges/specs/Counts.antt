-- Counts of faults: `u64`s that never fall.
use Rattle.std.specs.Prelude.{ℕ, ◌+◌, ◌-◌, ◌^◌, ◌≤◌, min}

-- the count after one more fault; at the greatest `u64` it stands still
abbrev pub one_more : ℕ → ℕ
one_more count = min (count + 1) (2 ^ 64 - 1)

-- The count rose from one moment to a later one. A count that stands at its end counts as having risen.
abbrev pub Rose : ℕ → ℕ → Type 0
Rose before after = one_more before ≤ after
