use Rattle.sp_tree_events.proofs.CopiesNaming.{lists_name_copies}
use Rattle.sp_tree_events.proofs.copies.lists_name_copies.Goals as goal

pub returns : goal.returns
returns c core plan delays = lists_name_copies core plan delays
