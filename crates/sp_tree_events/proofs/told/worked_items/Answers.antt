use Rattle.sp_tree_events.proofs.ToldWorking.{worked}
use Rattle.sp_tree_events.proofs.told.worked_items.Goals as goal

pub returns : goal.returns
returns c = worked
