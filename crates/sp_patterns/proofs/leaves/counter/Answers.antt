use Rattle.std.proofs.Common.{ap, length, ◌∙◌}
use Rattle.sp_patterns.proofs.Values.{length_nearest}
use Rattle.sp_patterns.proofs.leaves.counter.Goals as goal

pub returns-clause-counters : goal.returns-clause-counters
returns-clause-counters c = ap length c.in_ok-nearest_coefs.ensures ∙ length_nearest c.args.places.now c.args.c
