use Rattle.std.proofs.Common.{◌≡◌, false}
use Rattle.sp_deps.specs.Access.{plain_access}
use Rattle.sp_deps.specs.Stages.{meets_up_to}
use Rattle.sp_deps.proofs.stages.steps_meet.Given as goal

abbrev pub invariant-loop-t : goal.invariant-loop-t
invariant-loop-t l = meets_up_to (record { common = l.common; first = l.first; second = l.second }) (plain_access l.a) (plain_access l.b) l.t ≡ false
