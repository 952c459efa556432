use Rattle.sp_tree_events.proofs.ToldRanges.{numbers_stand_for_one}
use Rattle.sp_tree_events.proofs.told.numbers_stand_for_one.Goals as goal

pub returns : goal.returns
returns c node = numbers_stand_for_one node
