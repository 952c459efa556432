use Rattle.std.proofs.Common.{◌≡◌, ◌++◌, map, drop}
use Rattle.sp_core.specs.Numbered.{list_numbers}
use Rattle.sp_core.specs.Plain.{plain_op}
use Rattle.sp_schemes.specs.Places.{marks}
use Rattle.sp_schemes.proofs.standing.push_ops.Given as goal

abbrev pub invariant-loop-op : goal.invariant-loop-op
invariant-loop-op l = l.into.items ++ marks (list_numbers (map plain_op (drop l.op-index l.ops))) ≡ l.fn.into.items ++ marks (list_numbers (map plain_op l.ops))
