-- Moments at a memory of a worked core.
use Rattle.std.specs.Prelude.{ℕ, List, []}
use Rattle.sp_core.specs.Events.{Act, Moment, touches}

-- at these indices of its first memory
abbrev pub at_indices : (indices : List ℕ) → Act → Moment
at_indices is act = touches (record { number = 0; standing = record { path = []; counters = [] }; mem = 0; indices = is; act = act })
