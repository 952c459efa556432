use Rattle.std.proofs.Common.{◌≡◌, map, drop}
use Rattle.sp_core.specs.Numbered.{list_numbers}
use Rattle.sp_core.specs.Plain.{plain_op}
use Rattle.sp_serving.specs.Standing.{passed}
use Rattle.sp_serving.proofs.standing.past_ops.Given as goal

abbrev pub invariant-loop-op : goal.invariant-loop-op
invariant-loop-op l = passed l.p (list_numbers (map plain_op (drop l.op-index l.ops))) ≡ passed l.fn.before (list_numbers (map plain_op l.ops))
