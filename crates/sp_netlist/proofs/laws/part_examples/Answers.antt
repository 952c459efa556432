use Rattle.sp_netlist.proofs.SmallParts.{part_examples}
use Rattle.sp_netlist.proofs.laws.part_examples.Goals as goal

pub returns : goal.returns
returns c = part_examples
