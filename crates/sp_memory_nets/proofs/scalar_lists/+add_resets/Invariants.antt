use Rattle.std.proofs.Common.{length}
use Rattle.sp_memory_nets.proofs.scalar_lists.+add_resets.Given as goal

abbrev pub decreases-add_resets : goal.decreases-add_resets
decreases-add_resets l = length l.accesses.now
