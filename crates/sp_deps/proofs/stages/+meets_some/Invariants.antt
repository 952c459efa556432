use Rattle.std.proofs.Common.{length}
use Rattle.sp_deps.proofs.stages.+meets_some.Given as goal

abbrev pub decreases-meets_some : goal.decreases-meets_some
decreases-meets_some l = length l.b.now
