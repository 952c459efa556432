use Rattle.std.proofs.Common.{rules, []}
use Rattle.sp_core.specs.CoreParts.{plain_core}
use Rattle.sp_core.specs.Forms.{plain_forms}
use Rattle.sp_plan.specs.Groups.{lane_place}
use Rattle.sp_schemes.proofs.Begun.{one_more}
use Rattle.sp_schemes.proofs.groups.lanes_group.Goals as goal

pub loop-lane-preserved : goal.loop-lane-preserved
loop-lane-preserved c =
    let more = one_more (λ x. lane_place (plain_core c.args.core.now) (plain_forms c.args.forms.now) [] c.args.rank x) c.loop-lane.lane in
    search (rules, more)
