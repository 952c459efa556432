use Rattle.std.proofs.Common.{length}
use Rattle.sp_meets.proofs.range.+add_loops.Given as goal

abbrev pub decreases-add_loops : goal.decreases-add_loops
decreases-add_loops l = length l.counters.now
