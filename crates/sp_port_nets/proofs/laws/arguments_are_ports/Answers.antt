use Rattle.sp_port_nets.proofs.Standing.{args_are_ports, arg_at}
use Rattle.sp_port_nets.proofs.laws.arguments_are_ports.Goals as goal

pub returns : goal.returns
returns c core right = (args_are_ports core right, arg_at core right)
