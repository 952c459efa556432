use Rattle.sp_tree_events.proofs.PartsWorking.{worked}
use Rattle.sp_tree_events.proofs.parts.worked_agreement.Goals as goal

pub returns : goal.returns
returns c = worked
