use Rattle.sp_tree_events.proofs.OwnersWorking.{worked}
use Rattle.sp_tree_events.proofs.owners.worked_deeds.Goals as goal

pub returns : goal.returns
returns c = worked
