use Rattle.std.proofs.Common.{◌-◌, sum}
use Rattle.sp_modulo.proofs.Rising.{IsSettling}
use Rattle.sp_modulo.proofs.least.settle.Given as goal

abbrev pub invariant-loop : goal.invariant-loop
invariant-loop l = IsSettling l.interval l.limits l.orders l.initial.times l.times

abbrev pub decreases-loop : goal.decreases-loop
decreases-loop l = sum l.limits - sum l.times
