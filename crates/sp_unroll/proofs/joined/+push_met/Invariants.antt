use Rattle.std.proofs.Common.{length}
use Rattle.sp_unroll.proofs.joined.+push_met.Given as goal

abbrev pub decreases-push_met : goal.decreases-push_met
decreases-push_met l = length l.words.now
