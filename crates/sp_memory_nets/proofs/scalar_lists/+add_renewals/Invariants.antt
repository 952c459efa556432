use Rattle.std.proofs.Common.{length}
use Rattle.sp_memory_nets.proofs.scalar_lists.+add_renewals.Given as goal

abbrev pub decreases-add_renewals : goal.decreases-add_renewals
decreases-add_renewals l = length l.renewed.now
