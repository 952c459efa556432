use Rattle.sp_tree_circuits.proofs.Whole.{circles_close}
use Rattle.sp_tree_circuits.proofs.laws.circles_close.Goals as goal

pub returns : goal.returns
returns c core plan delays = circles_close core plan delays (c.cores_go_as_told.ensures core plan delays)
