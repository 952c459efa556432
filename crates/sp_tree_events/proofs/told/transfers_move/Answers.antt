use Rattle.sp_tree_events.proofs.ToldMoving.{transfers_move}
use Rattle.sp_tree_events.proofs.told.transfers_move.Goals as goal

pub returns : goal.returns
returns c core = transfers_move core
