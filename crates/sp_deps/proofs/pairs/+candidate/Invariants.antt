use Rattle.std.proofs.Common.{length}
use Rattle.sp_deps.proofs.pairs.+candidate.Given as goal

abbrev pub decreases-candidate : goal.decreases-candidate
decreases-candidate l = length l.a.now
