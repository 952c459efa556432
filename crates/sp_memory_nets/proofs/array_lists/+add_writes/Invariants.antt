use Rattle.std.proofs.Common.{length}
use Rattle.sp_memory_nets.proofs.array_lists.+add_writes.Given as goal

abbrev pub decreases-add_writes : goal.decreases-add_writes
decreases-add_writes l = length l.accesses.now
