use Rattle.sp_netlist.proofs.Examples.{example_endings}
use Rattle.sp_netlist.proofs.laws.example_endings.Goals as goal

pub returns : goal.returns
returns c = example_endings
