use Rattle.sp_tree_events.proofs.OwnersParting.{sides_own}
use Rattle.sp_tree_events.proofs.owners.sides_own.Goals as goal

pub returns : goal.returns
returns c core plan delays = sides_own core plan delays (c.timelines_tell_all.ensures core plan delays) (c.runs_own.ensures core) (c.sides_are_told.ensures core plan delays)
