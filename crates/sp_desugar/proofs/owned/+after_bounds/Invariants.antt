use Rattle.std.proofs.Common.{length}
use Rattle.sp_desugar.proofs.owned.+after_bounds.Given as goal

abbrev pub decreases-after_bounds : goal.decreases-after_bounds
decreases-after_bounds l = length l.counters.now
