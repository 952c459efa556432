use Rattle.sp_tree_circuits.proofs.BeingTold.{loops_are_told}
use Rattle.sp_tree_circuits.proofs.laws.loops_are_told.Goals as goal

pub returns : goal.returns
returns c core plan delays = loops_are_told core plan delays (c.laws_below.ensures core plan delays)
