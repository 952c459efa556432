use Rattle.sp_tree_events.proofs.OwnersDeeds.{runs_own}
use Rattle.sp_tree_events.proofs.owners.runs_own.Goals as goal

pub returns : goal.returns
returns c core node = runs_own core node
