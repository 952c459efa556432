use Rattle.sp_netlist.proofs.Serving.{channel_serves}
use Rattle.sp_netlist.proofs.laws.channel_serves.Goals as goal

pub returns : goal.returns
returns c = channel_serves
