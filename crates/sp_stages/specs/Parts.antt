-- What is held together.
use Rattle.std.specs.Prelude.{ℕ, nat_le, nat_lt, Bool, ◌&&◌}
use Rattle.sp_stages.specs.declared.pairs.Held.{Held}

-- a stage and the next one are among those that are held together
abbrev pub covers : (stage : ℕ) → Held → Bool
covers k h = nat_le h.begin k && nat_lt k h.end
