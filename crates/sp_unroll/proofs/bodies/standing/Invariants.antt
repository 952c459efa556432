use Rattle.std.proofs.Common.{◌≡◌, ◌++◌, drop}
use Rattle.sp_lanes.specs.Bodies.{standing}
use Rattle.sp_unroll.proofs.bodies.standing.Given as goal

abbrev pub invariant-loop-i : goal.invariant-loop-i
invariant-loop-i l = l.others.items ++ standing (drop l.i l.shared) (drop l.i l.places) ≡ standing l.shared l.places
