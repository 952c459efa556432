use Rattle.std.proofs.Common.{length}
use Rattle.sp_slices.proofs.axes.+follow.Given as goal

abbrev pub decreases-follow : goal.decreases-follow
decreases-follow l = length l.counts.now
