use Rattle.std.proofs.Common.{length}
use Rattle.sp_meets.proofs.steps.+reach.Given as goal

abbrev pub decreases-reach : goal.decreases-reach
decreases-reach l = length l.coefs.now
