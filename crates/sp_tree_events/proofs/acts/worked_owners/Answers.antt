use Rattle.sp_tree_events.proofs.ActsWorking.{worked}
use Rattle.sp_tree_events.proofs.acts.worked_owners.Goals as goal

pub returns : goal.returns
returns c = worked
