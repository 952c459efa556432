use Rattle.std.proofs.Common.{length}
use Rattle.sp_meets.proofs.pairs.+least_between.Given as goal

abbrev pub decreases-least_between : goal.decreases-least_between
decreases-least_between l = length l.a.now
