use Rattle.sp_tree_events.proofs.ToldHaving.{events_are_of_items}
use Rattle.sp_tree_events.proofs.told.events_are_of_items.Goals as goal

pub returns : goal.returns
returns c core = events_are_of_items core
