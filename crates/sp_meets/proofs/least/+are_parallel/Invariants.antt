use Rattle.std.proofs.Common.{length}
use Rattle.sp_meets.proofs.least.+are_parallel.Given as goal

abbrev pub decreases-are_parallel : goal.decreases-are_parallel
decreases-are_parallel l = length l.a.now
