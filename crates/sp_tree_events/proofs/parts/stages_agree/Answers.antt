use Rattle.sp_tree_events.proofs.PartsStepping.{stages_agree}
use Rattle.sp_tree_events.proofs.parts.stages_agree.Goals as goal

pub returns : goal.returns
returns c core plan delays = stages_agree core plan delays (c.timelines_tell_all.ensures core plan delays) (c.numbers_are_within.ensures core) (c.stages_are_told.ensures core plan delays)
