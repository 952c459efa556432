use Rattle.std.proofs.Common.{◌≡◌, drop}
use Rattle.std.specs.List.{list_any}
use Rattle.sp_core.specs.CoreParts.{plain_core}
use Rattle.sp_plan.specs.Runs.{plain_run}
use Rattle.sp_plan.specs.Slots.{holds_together}
use Rattle.sp_plan.proofs.held.one_holds.Given as goal

abbrev pub invariant-loop-meet : goal.invariant-loop-meet
invariant-loop-meet l = list_any (holds_together (plain_core l.core) l.owned l.apart (plain_run l.a) (plain_run l.b)) (drop l.meet-index l.meets) ≡ list_any (holds_together (plain_core l.core) l.owned l.apart (plain_run l.a) (plain_run l.b)) l.meets
