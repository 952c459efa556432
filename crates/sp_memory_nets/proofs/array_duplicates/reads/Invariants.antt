use Rattle.std.proofs.Common.{◌≡◌, drop, map}
use Rattle.sp_core.specs.CoreParts.{plain_core}
use Rattle.sp_core.specs.Plain.{plain_op}
use Rattle.sp_plan.specs.Copies.{reads}
use Rattle.sp_memory_nets.proofs.array_duplicates.reads.Given as goal

abbrev pub invariant-loop-op : goal.invariant-loop-op
invariant-loop-op l = reads (plain_core l.core) l.m (map plain_op (drop l.op-index l.ops)) ≡ reads (plain_core l.core) l.m (map plain_op l.ops)
