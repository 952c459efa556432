use Rattle.std.proofs.Common.{length}
use Rattle.sp_memory_nets.proofs.scalar_lists.+add_states.Given as goal

abbrev pub decreases-add_states : goal.decreases-add_states
decreases-add_states l = length l.kept.now
