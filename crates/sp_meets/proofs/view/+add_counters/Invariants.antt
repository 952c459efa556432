use Rattle.std.proofs.Common.{length}
use Rattle.sp_meets.proofs.view.+add_counters.Given as goal

abbrev pub decreases-add_counters : goal.decreases-add_counters
decreases-add_counters l = length l.path.now
