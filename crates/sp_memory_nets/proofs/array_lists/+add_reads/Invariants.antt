use Rattle.std.proofs.Common.{length}
use Rattle.sp_memory_nets.proofs.array_lists.+add_reads.Given as goal

abbrev pub decreases-add_reads : goal.decreases-add_reads
decreases-add_reads l = length l.accesses.now
