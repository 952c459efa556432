use Rattle.std.proofs.Common.{◌≡◌, ◌++◌, drop}
use Rattle.sp_core.specs.Plain.{plain_ops}
use Rattle.sp_lanes.specs.Combined.{moved}
use Rattle.sp_unroll.specs.Words.{move_of}
use Rattle.sp_unroll.proofs.moved.push_moved.Given as goal

abbrev pub invariant-loop-op : goal.invariant-loop-op
invariant-loop-op l =
    plain_ops l.ops.items ++ moved (move_of l.m l.ended l.places) (plain_ops (drop l.op-index l.part)) ≡ plain_ops l.initial.ops.items ++ moved (move_of l.m l.ended l.places) (plain_ops l.part)
