use Rattle.std.proofs.Common.{length}
use Rattle.sp_desugar.proofs.early.+push_slice.Given as goal

abbrev pub decreases-push_slice : goal.decreases-push_slice
decreases-push_slice l = length l.spans.now
