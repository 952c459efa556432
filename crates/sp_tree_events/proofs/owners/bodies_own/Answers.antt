use Rattle.sp_tree_events.proofs.OwnersParting.{bodies_own}
use Rattle.sp_tree_events.proofs.owners.bodies_own.Goals as goal

pub returns : goal.returns
returns c core plan delays = bodies_own core plan delays (c.timelines_tell_all.ensures core plan delays) (c.runs_own.ensures core) (c.bodies_are_told.ensures core plan delays)
