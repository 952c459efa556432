use Rattle.std.proofs.Common.{◌≡◌, false}
use Rattle.std.specs.Prelude.{Some}
use Rattle.sp_deps.specs.Distances.{all_common, earlier_may_meet}
use Rattle.sp_deps.proofs.pairs.earlier_may_meet.Given as goal

abbrev pub invariant-loop-i : goal.invariant-loop-i
invariant-loop-i l = earlier_may_meet (all_common l.loops) (Some l.a) (Some l.b) l.i ≡ false
