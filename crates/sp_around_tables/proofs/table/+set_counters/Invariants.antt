use Rattle.std.proofs.Common.{length}
use Rattle.sp_around_tables.proofs.table.+set_counters.Given as goal

abbrev pub decreases-set_counters : goal.decreases-set_counters
decreases-set_counters l = length l.counters.now
