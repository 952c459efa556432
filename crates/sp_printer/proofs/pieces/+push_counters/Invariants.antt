use Rattle.std.proofs.Common.{length}
use Rattle.sp_printer.proofs.pieces.+push_counters.Given as goal

abbrev pub decreases-push_counters : goal.decreases-push_counters
decreases-push_counters l = length l.all.now
