use Rattle.sp_tree_events.proofs.PartsListing.{branch_tests_agree}
use Rattle.sp_tree_events.proofs.parts.branch_tests_agree.Goals as goal

pub returns : goal.returns
returns c core plan delays = branch_tests_agree core plan delays (c.timelines_tell_all.ensures core plan delays) (c.numbers_are_within.ensures core) (c.sides_are_told.ensures core plan delays)
