use Rattle.std.proofs.Common.{◌≡◌, drop, map}
use Rattle.std.specs.List.{list_all}
use Rattle.sp_core.specs.OperationRules.{is_early}
use Rattle.sp_core.specs.PartsPlain.{core_of, around_of}
use Rattle.sp_core.specs.Plain.{plain_op}
use Rattle.sp_core.proofs.operation_rules.are_early.Given as goal

abbrev pub invariant-loop-op : goal.invariant-loop-op
invariant-loop-op l = list_all (is_early (core_of l.parts) (around_of l.around)) (map plain_op (drop l.op-index l.ops)) ≡ list_all (is_early (core_of l.parts) (around_of l.around)) (map plain_op l.ops)
