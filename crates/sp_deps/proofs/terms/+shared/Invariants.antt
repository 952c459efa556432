use Rattle.std.proofs.Common.{length}
use Rattle.sp_deps.proofs.terms.+shared.Given as goal

abbrev pub decreases-shared : goal.decreases-shared
decreases-shared l = length l.loops.now
