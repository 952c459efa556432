use Rattle.std.proofs.Common.{◌≡◌, ◌++◌, drop}
use Rattle.sp_lanes.specs.Order.{in_turn}
use Rattle.sp_unroll.specs.Arranged.{lists_of}
use Rattle.sp_unroll.proofs.order.joined.Given as goal

abbrev pub invariant-loop-list : goal.invariant-loop-list
invariant-loop-list l = l.all.items ++ in_turn (lists_of (drop l.list-index l.lists)) ≡ in_turn (lists_of l.lists)
