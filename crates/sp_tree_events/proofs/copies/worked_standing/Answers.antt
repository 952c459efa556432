use Rattle.sp_tree_events.proofs.CopiesWorking.{worked}
use Rattle.sp_tree_events.proofs.copies.worked_standing.Goals as goal

pub returns : goal.returns
returns c = worked
