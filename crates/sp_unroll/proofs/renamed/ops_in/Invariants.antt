use Rattle.std.proofs.Common.{◌≡◌, ◌++◌, drop}
use Rattle.sp_core.specs.Plain.{plain_ops}
use Rattle.sp_lanes.specs.Within.{ops_in}
use Rattle.sp_unroll.specs.Entries.{within_of}
use Rattle.sp_unroll.proofs.renamed.ops_in.Given as goal

abbrev pub invariant-loop-op : goal.invariant-loop-op
invariant-loop-op l = plain_ops l.made.items ++ ops_in (within_of l.order l.w) (plain_ops (drop l.op-index l.ops)) ≡ ops_in (within_of l.order l.w) (plain_ops l.ops)
