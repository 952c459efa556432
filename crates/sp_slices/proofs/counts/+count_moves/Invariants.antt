use Rattle.std.proofs.Common.{length}
use Rattle.sp_slices.proofs.counts.+count_moves.Given as goal

abbrev pub decreases-count_moves : goal.decreases-count_moves
decreases-count_moves l = length l.moves.now
