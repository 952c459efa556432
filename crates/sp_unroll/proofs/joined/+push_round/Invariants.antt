use Rattle.std.proofs.Common.{length}
use Rattle.sp_unroll.proofs.joined.+push_round.Given as goal

abbrev pub decreases-push_round : goal.decreases-push_round
decreases-push_round l = length l.words.now
