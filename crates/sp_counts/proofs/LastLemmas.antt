-- The last of a list that passes, found from the front.
use Rattle.std.proofs.Common.{ℕ, ◌+◌}
use Rattle.std.specs.Prelude.{◌==◌, if◌then◌else◌}

-- the last before the i-th, or the last of the rest, where it has one
abbrev pub last_so_far : (last i rest : ℕ) → ℕ
last_so_far last i rest = if rest == 0 then last else i + rest
