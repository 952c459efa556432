use Rattle.std.proofs.Common.{◌≡◌, map}
use Rattle.std.specs.List.{list_all}
use Rattle.sp_core.specs.CoreParts.{plain_core}
use Rattle.sp_core.specs.Elements.{numbers_below}
use Rattle.sp_core.specs.Forms.{plain_forms}
use Rattle.sp_core.specs.Plain.{plain_op}
use Rattle.sp_serving.specs.Served.{is_pair_kept}
use Rattle.sp_serving.proofs.bodies.is_with_earlier_kept.Given as goal

abbrev pub invariant-loop-i : goal.invariant-loop-i
invariant-loop-i l = l.kept ≡ list_all (is_pair_kept (plain_core l.core) (plain_forms l.forms) l.m l.scheme l.number (map plain_op l.ops) l.j) (numbers_below l.i)
