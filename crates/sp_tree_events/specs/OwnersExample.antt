-- Deeds of owners in a worked run: a loop that owns memory 2 makes it fresh in cycle 3 and in cycle 7, in copies 0 and 1, and an FSM
-- inside keeps the word 5 in memory 4.
use Rattle.std.specs.Prelude.{List, [], ◌∷◌}
use Rattle.sp_core.specs.Events.{renews, keeps}
use Rattle.sp_machine.specs.Stamps.{Stamped}
use Rattle.sp_tree_events.specs.OwnersOwning.{Shows, renewed, kept, OwnAgree}

abbrev pub inside : List Stamped
inside = record { cycle = 5; copy = 0; moment = keeps 4 5 } ∷ []

abbrev pub whole : List Stamped
whole = record { cycle = 3; copy = 0; moment = renews 2 } ∷ record { cycle = 7; copy = 1; moment = renews 2 } ∷ inside

pub record WorkedDeeds : Type 0 where
  pub second : Shows whole 7 1 (renewed 2)
  pub state : Shows whole 5 0 (kept 4 5)
  pub same : OwnAgree whole inside 4
