use Rattle.std.proofs.Common.{length}
use Rattle.sp_printer.proofs.pieces.+push_bound_names.Given as goal

abbrev pub decreases-push_bound_names : goal.decreases-push_bound_names
decreases-push_bound_names l = length l.all.now
