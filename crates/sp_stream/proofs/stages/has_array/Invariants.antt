use Rattle.std.proofs.Common.{◌≡◌, drop, map}
use Rattle.sp_core.specs.CoreParts.{plain_core}
use Rattle.sp_core.specs.Plain.{plain_op}
use Rattle.sp_stream.specs.Proper.{has_array}
use Rattle.sp_stream.proofs.stages.has_array.Given as goal

abbrev pub invariant-loop-op : goal.invariant-loop-op
invariant-loop-op l = has_array (plain_core l.core) (map plain_op (drop l.op-index l.ops)) ≡ has_array (plain_core l.core) (map plain_op l.ops)
