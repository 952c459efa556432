use Rattle.std.proofs.Common.{◌≡◌, ◌++◌, map, drop}
use Rattle.sp_core.specs.Plain.{plain_op}
use Rattle.sp_plan.specs.Named.{list_names}
use Rattle.sp_plan.specs.Runs.{plain_named}
use Rattle.sp_stages.proofs.names.push_ops.Given as goal

abbrev pub invariant-loop-op : goal.invariant-loop-op
invariant-loop-op l = map plain_named l.into.items ++ list_names (map plain_op (drop l.op-index l.ops)) ≡ map plain_named l.initial.into.items ++ list_names (map plain_op l.ops)
