use Rattle.std.proofs.Common.{◌≡◌, ℕ, ◌||◌, map}
use Rattle.std.specs.List.{list_any}
use Rattle.sp_core.specs.CoreParts.{plain_core}
use Rattle.sp_core.specs.Elements.{numbers_below}
use Rattle.sp_stages.specs.Divided.{is_over_any}
use Rattle.sp_plan.specs.Runs.{plain_run}
use Rattle.sp_stages.specs.Parts.{covers}
use Rattle.sp_stages.proofs.pairs.push_pairs.Given as goal

abbrev pub invariant-loop-p : goal.invariant-loop-p
invariant-loop-p l = (k : ℕ) → list_any (covers k) l.into.items ≡ (list_any (covers k) l.initial.into.items || list_any (is_over_any (plain_core l.core) l.owned (map plain_run l.runs) k l.meet) (numbers_below l.p))
