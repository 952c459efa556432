use Rattle.std.proofs.Common.{length}
use Rattle.sp_operations.proofs.combination.+conjunction.Given as goal

abbrev pub decreases-conjunction : goal.decreases-conjunction
decreases-conjunction l = length l.dims.now
