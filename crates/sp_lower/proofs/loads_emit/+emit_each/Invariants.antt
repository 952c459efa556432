use Rattle.std.proofs.Common.{length}
use Rattle.sp_lower.proofs.loads_emit.+emit_each.Given as goal

abbrev pub decreases-emit_each : goal.decreases-emit_each
decreases-emit_each l = length l.units.now
