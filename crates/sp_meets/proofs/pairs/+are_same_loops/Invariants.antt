use Rattle.std.proofs.Common.{length}
use Rattle.sp_meets.proofs.pairs.+are_same_loops.Given as goal

abbrev pub decreases-are_same_loops : goal.decreases-are_same_loops
decreases-are_same_loops l = length l.a.now
