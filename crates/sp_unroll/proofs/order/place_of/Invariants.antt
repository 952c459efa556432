use Rattle.std.proofs.Common.{◌≡◌, ◌++◌, ◌∷◌, ℕ, List, drop, take}
use Rattle.sp_lanes.specs.Order.{placed}
use Rattle.sp_unroll.specs.Arranged.{lists_of}
use Rattle.sp_unroll.proofs.order.place_of.Given as goal

abbrev pub invariant-loop-i : goal.invariant-loop-i
invariant-loop-i l = (ms : List ℕ) → lists_of (take l.i l.lists) ++ placed (l.m ∷ ms) (lists_of (drop l.i l.lists)) ≡ placed (l.m ∷ ms) (lists_of l.lists)
