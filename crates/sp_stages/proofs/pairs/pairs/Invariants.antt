use Rattle.std.proofs.Common.{◌≡◌, ℕ, map, take}
use Rattle.std.specs.List.{list_any}
use Rattle.sp_core.specs.CoreParts.{plain_core}
use Rattle.sp_stages.specs.Divided.{is_over_end}
use Rattle.sp_plan.specs.Runs.{plain_run}
use Rattle.sp_stages.specs.Parts.{covers}
use Rattle.sp_stages.proofs.pairs.pairs.Given as goal

abbrev pub invariant-loop-meet : goal.invariant-loop-meet
invariant-loop-meet l = (k : ℕ) → list_any (covers k) l.held.items ≡ list_any (is_over_end (plain_core l.core) l.owned (map plain_run l.runs) k) (take l.meet-index l.meets)
