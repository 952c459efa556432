use Rattle.std.proofs.Common.{length}
use Rattle.sp_meets.proofs.transfer.+add_sizes.Given as goal

abbrev pub decreases-add_sizes : goal.decreases-add_sizes
decreases-add_sizes l = length l.spans.now
