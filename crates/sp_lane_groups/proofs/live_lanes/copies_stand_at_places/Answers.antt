use Rattle.sp_lane_groups.proofs.LiveCopies.{copies_stand}
use Rattle.sp_lane_groups.proofs.live_lanes.copies_stand_at_places.Goals as goal

pub returns : goal.returns
returns c core = copies_stand core
