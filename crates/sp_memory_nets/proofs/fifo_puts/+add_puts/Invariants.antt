use Rattle.std.proofs.Common.{length}
use Rattle.sp_memory_nets.proofs.fifo_puts.+add_puts.Given as goal

abbrev pub decreases-add_puts : goal.decreases-add_puts
decreases-add_puts l = length l.accesses.now
