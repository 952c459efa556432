use Rattle.std.proofs.Common.{length}
use Rattle.sp_seq.proofs.element.+count.Given as goal

abbrev pub decreases-count : goal.decreases-count
decreases-count l = length l.dims.now
