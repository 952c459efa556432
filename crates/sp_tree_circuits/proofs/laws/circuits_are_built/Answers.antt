use Rattle.sp_tree_circuits.proofs.Building.{circuits_are_built}
use Rattle.sp_tree_circuits.proofs.laws.circuits_are_built.Goals as goal

pub returns : goal.returns
returns c core plan delays = circuits_are_built core plan delays (c.laws_below.ensures core plan delays)
