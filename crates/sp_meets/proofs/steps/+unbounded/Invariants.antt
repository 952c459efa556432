use Rattle.std.proofs.Common.{length}
use Rattle.sp_meets.proofs.steps.+unbounded.Given as goal

abbrev pub decreases-unbounded : goal.decreases-unbounded
decreases-unbounded l = length l.coefs.now
