use Rattle.std.proofs.Common.{length}
use Rattle.sp_slices.proofs.walking.+range_offsets.Given as goal

abbrev pub decreases-range_offsets : goal.decreases-range_offsets
decreases-range_offsets l = length l.moves.now
