use Rattle.std.proofs.Common.{length}
use Rattle.sp_sequence.proofs.chains.+run_chain.Given as goal

abbrev pub decreases-run_chain : goal.decreases-run_chain
decreases-run_chain l = length l.members.now
