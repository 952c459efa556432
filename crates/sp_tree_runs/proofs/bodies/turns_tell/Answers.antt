use Rattle.sp_tree_runs.proofs.BodiesTurning.{turns_tell}
use Rattle.sp_tree_runs.proofs.bodies.turns_tell.Goals as goal

pub returns : goal.returns
returns c core plan delays = turns_tell core plan delays (c.lists_work.ensures core)
