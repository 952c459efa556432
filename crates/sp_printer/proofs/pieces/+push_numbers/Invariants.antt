use Rattle.std.proofs.Common.{length}
use Rattle.sp_printer.proofs.pieces.+push_numbers.Given as goal

abbrev pub decreases-push_numbers : goal.decreases-push_numbers
decreases-push_numbers l = length l.all.now
