use Rattle.std.proofs.Common.{◌≡◌, ◌&&◌, map, drop}
use Rattle.std.specs.List.{list_all}
use Rattle.sp_core.specs.CoreParts.{plain_core}
use Rattle.sp_core.specs.Plain.{plain_op}
use Rattle.sp_build.specs.Buildable.{is_early}
use Rattle.sp_build.proofs.buildable.are_early.Given as goal

-- what is found so far, and what is left
abbrev pub invariant-loop-op : goal.invariant-loop-op
invariant-loop-op l = (l.all && list_all (is_early (plain_core l.core)) (map plain_op (drop l.op-index l.ops))) ≡ list_all (is_early (plain_core l.core)) (map plain_op l.ops)
