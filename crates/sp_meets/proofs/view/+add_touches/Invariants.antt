use Rattle.std.proofs.Common.{length}
use Rattle.sp_meets.proofs.view.+add_touches.Given as goal

abbrev pub decreases-add_touches : goal.decreases-add_touches
decreases-add_touches l = length l.targets.now
