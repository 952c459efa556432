use Rattle.sp_tree_circuits.proofs.Whole.{circuits_go}
use Rattle.sp_tree_circuits.proofs.laws.circuits_go_as_told.Goals as goal

pub returns : goal.returns
returns c core plan delays = circuits_go core plan delays (c.laws_below.ensures core plan delays)
