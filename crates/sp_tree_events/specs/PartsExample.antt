-- A worked whole of two events, at numbers 3 and 4, of which the second one is that of a part.
use Rattle.std.specs.Prelude.{ℕ, List, [], ◌∷◌}
use Rattle.sp_core.specs.Events.{Act, reads, writes, touches}
use Rattle.sp_machine.specs.Stamps.{Stamped}
use Rattle.sp_tree_events.specs.PartsAgreeing.{Agree}

abbrev pub event_at : (cycle number : ℕ) → Act → Stamped
event_at t n act = record { cycle = t; copy = 0; moment = touches (record { number = n; standing = record { path = []; counters = [] }; mem = 1; indices = []; act = act }) }

abbrev pub part : List Stamped
part = event_at 6 4 (writes 1) ∷ []

abbrev pub whole : List Stamped
whole = event_at 2 3 (reads 5) ∷ part

pub record WorkedAgreement : Type 0 where
  pub same : Agree whole part 4
  -- but not at the number of the other event
  pub other : Agree whole part 3 → ⊥
