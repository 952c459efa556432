use Rattle.std.proofs.Common.{◌≡◌, ◌-◌, take, map}
use Rattle.sp_modulo.proofs.schedule.limits.Given as goal

abbrev pub invariant-loop-latency : goal.invariant-loop-latency
invariant-loop-latency l = l.limits.items ≡ map (λ x. l.end - x) (take l.latency-index l.latencies)
