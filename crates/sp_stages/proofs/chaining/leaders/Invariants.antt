use Rattle.std.proofs.Common.{◌≡◌, map, length}
use Rattle.sp_core.specs.CoreParts.{plain_core}
use Rattle.sp_stages.specs.Chains.{AreListed, leaders_before, is_link}
use Rattle.sp_plan.specs.Runs.{plain_run}
use Rattle.sp_stages.proofs.chaining.leaders.Given as goal

abbrev pub invariant-loop-p : goal.invariant-loop-p
invariant-loop-p l =
    (length l.leaders.items ≡ length l.runs)
    × AreListed (leaders_before (is_link (plain_core l.core) l.meets l.parallel (map plain_run l.runs) l.slots) (length l.runs) l.p) l.leaders.items
