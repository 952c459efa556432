use Rattle.std.proofs.Common.{◌≡◌, drop, map}
use Rattle.std.specs.List.{list_any}
use Rattle.sp_core.specs.Declarations.{is_among}
use Rattle.sp_core.specs.Plain.{plain_op}
use Rattle.sp_plan.specs.Named.{list_names}
use Rattle.sp_plan.proofs.naming.list_uses.Given as goal

abbrev pub invariant-loop-op : goal.invariant-loop-op
invariant-loop-op l = list_any (is_among l.m) (list_names (map plain_op (drop l.op-index l.ops))) ≡ list_any (is_among l.m) (list_names (map plain_op l.ops))
