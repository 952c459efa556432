use Rattle.std.proofs.Common.{◌≡◌, ◌++◌, drop}
use Rattle.sp_core.specs.Plain.{plain_ops}
use Rattle.sp_unroll.proofs.copied.copied_ops.Given as goal

abbrev pub invariant-loop-op : goal.invariant-loop-op
invariant-loop-op l = plain_ops l.made.items ++ plain_ops (drop l.op-index l.ops) ≡ plain_ops l.ops
