use Rattle.sp_tree_events.proofs.ToldHaving.{numbers_are_within}
use Rattle.sp_tree_events.proofs.told.numbers_are_within.Goals as goal

pub returns : goal.returns
returns c core node = numbers_are_within core node
