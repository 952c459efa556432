use Rattle.sp_tree_events.proofs.OwnersParting.{stages_own}
use Rattle.sp_tree_events.proofs.owners.stages_own.Goals as goal

pub returns : goal.returns
returns c core plan delays = stages_own core plan delays (c.timelines_tell_all.ensures core plan delays) (c.runs_own.ensures core) (c.stages_are_told.ensures core plan delays)
