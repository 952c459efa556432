use Rattle.std.proofs.Common.{◌≡◌, []}
use Rattle.std.specs.Prelude.{flat_map}
use Rattle.sp_core.specs.CoreParts.{plain_core}
use Rattle.sp_core.specs.Elements.{numbers_below}
use Rattle.sp_core.specs.Forms.{plain_forms}
use Rattle.sp_plan.specs.Groups.{lane_place}
use Rattle.sp_schemes.proofs.groups.lanes_group.Given as goal

abbrev pub invariant-loop-lane : goal.invariant-loop-lane
invariant-loop-lane l = l.group.items ≡ flat_map (λ x. lane_place (plain_core l.core) (plain_forms l.forms) [] l.rank x) (numbers_below l.lane)
