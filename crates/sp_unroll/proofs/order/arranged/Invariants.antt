use Rattle.std.proofs.Common.{◌≡◌, [], length}
use Rattle.sp_unroll.specs.Arranged.{lists_of, placed_all}
use Rattle.sp_unroll.proofs.order.arranged.Given as goal

abbrev pub invariant-loop-part : goal.invariant-loop-part
invariant-loop-part l = placed_all (lists_of l.parts.items) (lists_of l.lists.items) ≡ placed_all (lists_of l.initial.parts.items) []

abbrev pub decreases-loop-part : goal.decreases-loop-part
decreases-loop-part l = length l.parts.items
