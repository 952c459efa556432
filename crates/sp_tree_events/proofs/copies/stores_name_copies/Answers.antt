use Rattle.sp_tree_events.proofs.CopiesNaming.{stores_name_copies}
use Rattle.sp_tree_events.proofs.copies.stores_name_copies.Goals as goal

pub returns : goal.returns
returns c core plan delays = stores_name_copies core plan delays (c.runs_happen_within.ensures core plan delays)
