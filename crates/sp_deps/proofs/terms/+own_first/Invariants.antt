use Rattle.std.proofs.Common.{length}
use Rattle.sp_deps.proofs.terms.+own_first.Given as goal

abbrev pub decreases-own_first : goal.decreases-own_first
decreases-own_first l = length l.loops.now
