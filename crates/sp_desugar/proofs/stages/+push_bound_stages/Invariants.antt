use Rattle.std.proofs.Common.{length}
use Rattle.sp_desugar.proofs.stages.+push_bound_stages.Given as goal

abbrev pub decreases-push_bound_stages : goal.decreases-push_bound_stages
decreases-push_bound_stages l = length l.counters.now
