use Rattle.std.proofs.Common.{length}
use Rattle.sp_unroll.proofs.order.+lanes_of.Given as goal

abbrev pub decreases-lanes_of : goal.decreases-lanes_of
decreases-lanes_of l = length l.counters.now
