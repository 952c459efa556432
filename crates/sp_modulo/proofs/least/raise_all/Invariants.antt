use Rattle.sp_modulo.proofs.Rising.{IsRaised}
use Rattle.sp_modulo.proofs.least.raise_all.Given as goal

abbrev pub invariant-loop-order : goal.invariant-loop-order
invariant-loop-order l = IsRaised l.interval l.limits l.orders l.order-index l.initial.times l.times l.step
