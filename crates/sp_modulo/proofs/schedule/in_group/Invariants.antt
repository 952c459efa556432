use Rattle.std.proofs.Common.{◌≡◌, take}
use Rattle.sp_modulo.specs.Times.{in_group}
use Rattle.sp_modulo.proofs.schedule.in_group.Given as goal

abbrev pub invariant-loop-order : goal.invariant-loop-order
invariant-loop-order l = l.kept.items ≡ in_group (take l.order-index l.orders)
