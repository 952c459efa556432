use Rattle.std.proofs.Common.{length}
use Rattle.sp_meets.proofs.indices.+add_slice.Given as goal

abbrev pub decreases-add_slice : goal.decreases-add_slice
decreases-add_slice l = length l.spans.now
