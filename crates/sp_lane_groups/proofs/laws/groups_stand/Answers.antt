use Rattle.sp_lane_groups.proofs.Places.{groups_are}
use Rattle.sp_lane_groups.proofs.laws.groups_stand.Goals as goal

pub returns : goal.returns
returns c core = groups_are core (c.places_have_room.ensures core)
