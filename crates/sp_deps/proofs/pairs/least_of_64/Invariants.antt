use Rattle.std.proofs.Common.{◌≡◌, ◌≤◌, ◌<◌, ℕ, false}
use Rattle.std.specs.Prelude.{Some}
use Rattle.sp_deps.specs.Distances.{all_common, steps_may_meet}
use Rattle.sp_deps.proofs.pairs.least_of_64.Given as goal

abbrev pub invariant-loop-t : goal.invariant-loop-t
invariant-loop-t l = (u : ℕ) → 1 ≤ u → u < l.t → steps_may_meet (all_common l.loops) (Some l.a) (Some l.b) u ≡ false
