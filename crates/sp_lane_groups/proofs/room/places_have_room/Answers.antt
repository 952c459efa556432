use Rattle.sp_lane_groups.proofs.RoomWhole.{places_room}
use Rattle.sp_lane_groups.proofs.room.places_have_room.Goals as goal

pub returns : goal.returns
returns c core = places_room core
