use Rattle.sp_tree_events.proofs.PartsStepping.{machines_agree}
use Rattle.sp_tree_events.proofs.parts.machines_agree.Goals as goal

pub returns : goal.returns
returns c core plan delays = machines_agree core plan delays (c.timelines_tell_all.ensures core plan delays) (c.numbers_are_within.ensures core) (c.bodies_are_told.ensures core plan delays)
