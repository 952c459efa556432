use Rattle.sp_chosen_runs.proofs.PortsWhole.{share_no_port}
use Rattle.sp_chosen_runs.proofs.ports.histories_share_no_port.Goals as goal

pub returns : goal.returns
returns c = share_no_port
