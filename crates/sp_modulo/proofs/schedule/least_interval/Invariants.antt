use Rattle.std.proofs.Common.{◌-◌}
use Rattle.sp_modulo.proofs.Intervals.{IsBetween}
use Rattle.sp_modulo.proofs.schedule.least_interval.Given as goal

abbrev pub invariant-loop-low : goal.invariant-loop-low
invariant-loop-low l = IsBetween l.limits l.orders l.low l.high

abbrev pub decreases-loop-low : goal.decreases-loop-low
decreases-loop-low l = l.high - l.low
