use Rattle.sp_lane_trees.proofs.TransfersWhole.{transfers_go}
use Rattle.sp_lane_trees.proofs.transfers.transfers_go.Goals as goal

pub returns : goal.returns
returns c core = transfers_go core (c.lists_fit.ensures core) (c.places_have_room.ensures core)
