use Rattle.std.proofs.Common.{◌≡◌}
use Rattle.sp_core.specs.Elements.{numbers_below}
use Rattle.sp_stages.proofs.leaders.own_leaders.Given as goal

abbrev pub invariant-loop-r : goal.invariant-loop-r
invariant-loop-r l = l.leaders.items ≡ numbers_below l.r
