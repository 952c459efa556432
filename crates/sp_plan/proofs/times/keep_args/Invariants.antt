use Rattle.std.proofs.Common.{◌≡◌, drop, map}
use Rattle.std.specs.List.{list_all}
use Rattle.sp_core.specs.CoreParts.{plain_core}
use Rattle.sp_core.specs.Plain.{plain_op}
use Rattle.sp_plan.specs.Bodies.{is_kept}
use Rattle.sp_plan.specs.Orders.{use_order}
use Rattle.sp_plan.proofs.times.keep_args.Given as goal

abbrev pub invariant-loop-arg : goal.invariant-loop-arg
invariant-loop-arg l = list_all (is_kept l.ii l.times) (map (use_order (plain_core l.core) (map plain_op l.ops) l.j) (drop l.arg-index l.args)) ≡ list_all (is_kept l.ii l.times) (map (use_order (plain_core l.core) (map plain_op l.ops) l.j) l.args)
