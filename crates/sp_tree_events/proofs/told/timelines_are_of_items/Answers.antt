use Rattle.sp_tree_events.proofs.ToldHaving.{timelines_are_of_items}
use Rattle.sp_tree_events.proofs.told.timelines_are_of_items.Goals as goal

pub returns : goal.returns
returns c core plan delays = timelines_are_of_items core plan delays (c.timelines_tell_all.ensures core plan delays core.root)
