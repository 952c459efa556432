use Rattle.sp_lane_groups.proofs.InnersInner.{all_go}
use Rattle.sp_lane_groups.proofs.inners.inners_go.Goals as goal

pub returns : goal.returns
returns c core = all_go core (c.lists_fit.ensures core) (c.places_have_room.ensures core)
