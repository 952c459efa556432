use Rattle.std.proofs.Common.{◌≡◌, drop, map}
use Rattle.sp_core.specs.OperationRules.{are_operations_right, are_operations_right_after}
use Rattle.sp_core.specs.PartsPlain.{core_of, around_of}
use Rattle.sp_core.specs.Plain.{plain_op}
use Rattle.sp_core.proofs.operation_rules.are_operations_right.Given as goal

abbrev pub invariant-loop-op : goal.invariant-loop-op
invariant-loop-op l = are_operations_right_after (core_of l.parts) (around_of l.around) l.earlier.items (map plain_op (drop l.op-index l.ops)) ≡ are_operations_right (core_of l.parts) (around_of l.around) (map plain_op l.ops)
