use Rattle.std.proofs.Common.{length}
use Rattle.sp_unroll.proofs.combinations.+push_combination.Given as goal

abbrev pub decreases-push_combination : goal.decreases-push_combination
decreases-push_combination l = length l.stages.now
