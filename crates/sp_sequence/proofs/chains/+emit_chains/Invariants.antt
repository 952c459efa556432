use Rattle.std.proofs.Common.{length}
use Rattle.sp_sequence.proofs.chains.+emit_chains.Given as goal

abbrev pub decreases-emit_chains : goal.decreases-emit_chains
decreases-emit_chains l = length l.chains.now
