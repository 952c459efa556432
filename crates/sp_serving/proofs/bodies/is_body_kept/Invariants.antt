use Rattle.std.proofs.Common.{◌≡◌, map}
use Rattle.std.specs.List.{list_all}
use Rattle.sp_core.specs.CoreParts.{plain_core}
use Rattle.sp_core.specs.Elements.{numbers_below}
use Rattle.sp_core.specs.Forms.{plain_forms}
use Rattle.sp_core.specs.Plain.{plain_op}
use Rattle.sp_serving.specs.Served.{is_access_kept}
use Rattle.sp_serving.proofs.bodies.is_body_kept.Given as goal

abbrev pub invariant-loop-j : goal.invariant-loop-j
invariant-loop-j l = l.kept ≡ list_all (is_access_kept (plain_core l.core) (plain_forms l.forms) l.m l.scheme l.number (map plain_op l.ops)) (numbers_below l.j)
