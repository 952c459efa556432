use Rattle.sp_netlist.proofs.Endings.{no_loop}
use Rattle.sp_netlist.proofs.laws.no_loop.Goals as goal

pub returns : goal.returns
returns c = no_loop
