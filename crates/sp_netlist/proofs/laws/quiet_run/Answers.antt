use Rattle.sp_netlist.proofs.QuietRuns.{quiet_run}
use Rattle.sp_netlist.proofs.laws.quiet_run.Goals as goal

pub returns : goal.returns
returns c = quiet_run
