use Rattle.std.proofs.Common.{length}
use Rattle.sp_around_tables.proofs.table.+lanes.Given as goal

abbrev pub decreases-lanes : goal.decreases-lanes
decreases-lanes l = length l.counters.now
