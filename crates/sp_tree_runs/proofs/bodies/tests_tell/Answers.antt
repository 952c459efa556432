use Rattle.sp_tree_runs.proofs.BodiesFinding.{tests_tell}
use Rattle.sp_tree_runs.proofs.bodies.tests_tell.Goals as goal

pub returns : goal.returns
returns c core plan delays = tests_tell core plan delays (c.lists_work.ensures core)
