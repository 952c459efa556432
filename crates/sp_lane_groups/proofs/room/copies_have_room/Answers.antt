use Rattle.sp_lane_groups.proofs.RoomWhole.{have_room}
use Rattle.sp_lane_groups.proofs.room.copies_have_room.Goals as goal

pub returns : goal.returns
returns c core = have_room core
