use Rattle.std.proofs.Common.{length}
use Rattle.sp_deps.proofs.terms.+own_second.Given as goal

abbrev pub decreases-own_second : goal.decreases-own_second
decreases-own_second l = length l.loops.now
