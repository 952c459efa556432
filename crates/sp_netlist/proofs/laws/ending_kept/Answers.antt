use Rattle.sp_netlist.proofs.Endings.{ending_kept}
use Rattle.sp_netlist.proofs.laws.ending_kept.Goals as goal

pub returns : goal.returns
returns c = ending_kept
