use Rattle.sp_tree_circuits.proofs.Whole.{cores_go}
use Rattle.sp_tree_circuits.proofs.laws.cores_go_as_told.Goals as goal

pub returns : goal.returns
returns c core plan delays = cores_go core plan delays (c.circuits_go_as_told.ensures core plan delays)
