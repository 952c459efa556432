use Rattle.std.proofs.Common.{length}
use Rattle.sp_deps.proofs.terms.+stepping.Given as goal

abbrev pub decreases-stepping : goal.decreases-stepping
decreases-stepping l = length l.loops.now
