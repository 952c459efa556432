use Rattle.std.proofs.Common.{◌≡◌, ◌++◌, drop}
use Rattle.sp_core.specs.Plain.{plain_ops}
use Rattle.sp_lanes.specs.Bodies.{nowhere}
use Rattle.sp_unroll.proofs.bodies.nowhere.Given as goal

abbrev pub invariant-loop-op : goal.invariant-loop-op
invariant-loop-op l = l.others.items ++ nowhere (plain_ops (drop l.op-index l.body)) ≡ nowhere (plain_ops l.body)
