-- Worked owners: net 0 is 1 in cycle 3 alone, and net 1 has 5. By them a loop makes memory 2 fresh in that cycle, or an FSM keeps the word 5
-- in memory 4, and nothing else is done.
use Rattle.std.specs.Prelude.{ℕ, [], ◌∷◌, None}
use Rattle.sp_core.specs.Events.{renews, keeps}
use Rattle.sp_core.specs.PlainCore.{PlainCore}
use Rattle.sp_tree_events.specs.ActsExample.{waves, in_three}
use Rattle.sp_tree_handed.specs.Owners.{renewal, keeping}
use Rattle.sp_owner_runs.specs.Acting.{OwnersAct}

pub record WorkedNets : Type 0 where
  pub loop : (core : PlainCore) (last : ℕ) → OwnersAct core waves (in_three (renews 2)) last (renewal 2 0 None ∷ []) []
  pub machine : (core : PlainCore) (last : ℕ) → OwnersAct core waves (in_three (keeps 4 5)) last [] (keeping 4 0 1 None ∷ [])
