use Rattle.std.proofs.Common.{length}
use Rattle.sp_operations.proofs.combination.+push_element_counters.Given as goal

abbrev pub decreases-push_element_counters : goal.decreases-push_element_counters
decreases-push_element_counters l = length l.dims.now
