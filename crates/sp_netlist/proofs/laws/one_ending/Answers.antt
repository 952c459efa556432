use Rattle.sp_netlist.proofs.Endings.{one_ending}
use Rattle.sp_netlist.proofs.laws.one_ending.Goals as goal

pub returns : goal.returns
returns c = one_ending
