use Rattle.std.proofs.Common.{length}
use Rattle.sp_meets.proofs.steps.+tries_of_all.Given as goal

abbrev pub decreases-tries_of_all : goal.decreases-tries_of_all
decreases-tries_of_all l = length l.a.now
