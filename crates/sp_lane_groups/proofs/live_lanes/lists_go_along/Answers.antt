use Rattle.std.proofs.Common.{[]}
use Rattle.sp_lane_groups.proofs.LiveOperations.{list_goes}
use Rattle.sp_lane_groups.proofs.live_lanes.lists_go_along.Goals as goal

pub returns : goal.returns
returns c core around inside w h copies rooms plain in_lanes agree ops s after t es p right alike ran =
    list_goes core around inside w h copies rooms plain in_lanes agree ops [] [] p right s t alike es after ran
