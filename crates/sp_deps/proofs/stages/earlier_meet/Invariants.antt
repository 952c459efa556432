use Rattle.std.proofs.Common.{◌≡◌, false}
use Rattle.sp_deps.specs.Access.{plain_access}
use Rattle.sp_deps.specs.Distances.{earlier_may_meet}
use Rattle.sp_deps.proofs.stages.earlier_meet.Given as goal

abbrev pub invariant-loop-i : goal.invariant-loop-i
invariant-loop-i l = earlier_may_meet (record { common = l.common; first = l.first; second = l.second }) (plain_access l.a).forms (plain_access l.b).forms l.i ≡ false
