use Rattle.sp_netlist.proofs.Accepting.{refusals_exact}
use Rattle.sp_netlist.proofs.laws.refusals_exact.Goals as goal

pub returns : goal.returns
returns c = refusals_exact
