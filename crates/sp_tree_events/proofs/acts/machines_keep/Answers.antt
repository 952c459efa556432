use Rattle.sp_tree_events.proofs.ActsMachines.{machines_keep}
use Rattle.sp_tree_events.proofs.acts.machines_keep.Goals as goal

pub returns : goal.returns
returns c core plan delays = machines_keep core plan delays (c.timelines_tell_all.ensures core plan delays) (c.runs_own.ensures core) (c.bodies_are_told.ensures core plan delays)
