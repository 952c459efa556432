use Rattle.sp_netlist.proofs.OneRun.{one_run}
use Rattle.sp_netlist.proofs.laws.one_run.Goals as goal

pub returns : goal.returns
returns c = one_run
