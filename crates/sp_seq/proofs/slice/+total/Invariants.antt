use Rattle.std.proofs.Common.{length}
use Rattle.sp_seq.proofs.slice.+total.Given as goal

abbrev pub decreases-total : goal.decreases-total
decreases-total l = length l.parts.now
