use Rattle.std.proofs.Common.{length}
use Rattle.sp_desugar.proofs.early.+push_counters.Given as goal

abbrev pub decreases-push_counters : goal.decreases-push_counters
decreases-push_counters l = length l.counters.now
